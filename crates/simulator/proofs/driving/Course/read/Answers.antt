use Rattle.std.proofs.Common.{◌≡◌, pos, sym, rules}
use Rattle.simulator.proofs.Readings.{full_readings-none, full_readings-more}
use Rattle.simulator.specs.Course.{run_of}
use Rattle.simulator.proofs.driving.Course.read.Goals as goal

pub loop-count-init : goal.loop-count-init
loop-count-init c = sym (full_readings-none c.args.speed (run_of c.args.self.now))

pub loop-count-preserved : goal.loop-count-preserved
loop-count-preserved c =
    let far : c.unwrap-movement.result ≡ pos 10_000 = search rules in
    rw (full_readings-more c.loop-count.count c.args.speed (run_of c.args.self.now), ← c.loop-count.invariant, ← far) c.in_ok-accept.ensures.ok
