use Rattle.std.proofs.Common.{◌-◌, drop, sym, ◌∙◌, arith}
use Rattle.speed_profile.specs.Targets.{held}
use Rattle.speed_profile.proofs.Held.{gathered_none, gathered_one}
use Rattle.speed_profile.proofs.nearest.gather_deciding.Goals as goal

pub loop-step-preserved-in-Some : goal.loop-step-preserved-in-Some
loop-step-preserved-in-Some c =
    let known = c.loop-step.invariant in
    let put = c.put_before-first in
    record {
      space = omega (arith, known.space, put.ensures.least, c.loop-step-test.true);
      within = omega (arith, known.within, put.ensures.most, put.ensures.length);
      requested = gathered_one c.loop-step.nearest put.new.nearest (c.loop-step.step - 1) c.loop-step.step c.index-nearest-step.result c.in-Some.target
          (held (drop c.loop-step.first c.loop-step.nearest)) (held (drop put.result put.new.nearest)) (held c.args.nearest.now)
          (omega (arith, known.space, known.within, c.loop-step-test.true)) (omega (arith, c.loop-step-test.true))
          (sym c.index-nearest-step.is ∙ c.in-Some.is)
          (put.ensures.left (c.loop-step.step - 1) (omega (arith, known.space, c.loop-step-test.true)))
          put.ensures.requested known.requested;
    }

pub loop-step-preserved : goal.loop-step-preserved
loop-step-preserved c =
    let known = c.loop-step.invariant in
    record {
      space = omega (arith, known.space);
      within = known.within;
      requested = gathered_none c.loop-step.nearest (c.loop-step.step - 1) c.loop-step.step c.index-nearest-step.result
          (held (drop c.loop-step.first c.loop-step.nearest)) (held c.args.nearest.now)
          (omega (arith, known.space, known.within, c.loop-step-test.true)) (omega (arith, c.loop-step-test.true))
          (sym c.index-nearest-step.is ∙ c.in_default.is) known.requested;
    }
