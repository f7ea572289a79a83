use Rattle.std.proofs.Common.{◌≡◌, map, drop}
use Rattle.serde_json.specs.View.{view}
use Rattle.simulator.specs.Groups.{groups}
use Rattle.simulator.proofs.groups.lay_all.Given as goal

abbrev pub invariant-loop-item : goal.invariant-loop-item
invariant-loop-item l = groups (map view (drop l.item-index l.items)) l.balises.items ≡ groups (map view l.items) l.fn.balises.items
