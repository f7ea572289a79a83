use Rattle.std.proofs.Common.{◌≡◌, map, drop}
use Rattle.serde_json.specs.View.{view}
use Rattle.simulator.specs.Groups.{are_texts}
use Rattle.simulator.proofs.groups.are_texts.Given as goal

abbrev pub invariant-loop-item : goal.invariant-loop-item
invariant-loop-item l = are_texts (map view (drop l.item-index l.items)) ≡ are_texts (map view l.items)
