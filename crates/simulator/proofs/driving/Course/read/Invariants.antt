use Rattle.std.proofs.Common.{◌≡◌}
use Rattle.simulator.specs.Course.{run_of, full_readings}
use Rattle.simulator.proofs.driving.Course.read.Given as goal

abbrev pub invariant-loop-count : goal.invariant-loop-count
invariant-loop-count l = run_of l.self ≡ full_readings l.count l.speed (run_of l.fn.self)
