use Rattle.std.proofs.Common.{◌≡◌, ◌*◌, [], pos, neg_ℤ, ◌≤ℤ◌, map, drop}
use Rattle.serde_json.specs.View.{view}
use Rattle.simulator.specs.Passing.{passed}
use Rattle.simulator.specs.Course.{run_of, start}
use Rattle.simulator.specs.Lives.{ends_by}
use Rattle.simulator.proofs.ends.ends_by.Given as goal

abbrev pub invariant-loop-item : goal.invariant-loop-item
invariant-loop-item l = record {
  so_far : ends_by (passed l.track.balises.items) (map view (drop l.item-index l.items)) (run_of l.course) l.ends.items ≡ ends_by (passed l.track.balises.items) (map view l.items) start [];
  low : neg_ℤ (pos (1_000_000 * l.item-index)) ≤ℤ l.course.front;
  high : l.course.front ≤ℤ pos (1_000_000 * l.item-index);
}
