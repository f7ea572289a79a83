use Rattle.std.proofs.Common.{◌≡◌, ◌*◌, ◌+◌, ◌≤◌, map, drop}
use Rattle.serde_json.specs.View.{view}
use Rattle.simulator.specs.Groups.{laid}
use Rattle.simulator.proofs.groups.lay.Given as goal

abbrev pub invariant-loop-item : goal.invariant-loop-item
invariant-loop-item l = record {
  so_far : laid l.at l.apart (map view (drop l.item-index l.items)) l.balises.items ≡ laid l.fn.first l.apart (map view l.items) l.fn.balises.items;
  near : l.at ≤ 100_000_000 + 1_200 * l.item-index;
}
