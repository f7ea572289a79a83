use Rattle.std.proofs.Common.{◌≡◌, ◌≤ℤ◌, ◌+ℤ◌, pos, drop}
use Rattle.simulator.specs.Course.{run_of, driven_over_all}
use Rattle.simulator.proofs.driving.Course.drive_over_all.Given as goal

abbrev pub invariant-loop-balise : goal.invariant-loop-balise
invariant-loop-balise l = record {
  so_far : driven_over_all l.speed (drop l.balise-index l.balises) (run_of l.self) ≡ driven_over_all l.speed l.balises (run_of l.fn.self);
  least : l.fn.self.front ≤ℤ l.self.front;
  most : l.self.front ≤ℤ (l.fn.self.front +ℤ pos 1_000_000);
}
