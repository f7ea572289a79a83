use Rattle.std.proofs.Common.{arith}
use Rattle.packets.proofs.StaticSteps.{steps_more, steps_end, size_more}
use Rattle.packets.proofs.static_speeds.handing.steps_fields.Goals as goal

pub step_fields-requires : goal.step_fields-requires
step_fields-requires g c =
    omega (arith, size_more c.args.steps.now c.loop-step.step-index c.step-item.result _ c.loop-step.left.now _ _ c.loop-step-test.true c.step-item.is c.split_own.ensures.own c.split_own.ensures.others, c.loop-step.invariant.space, c.requires)

pub loop-step-preserved : goal.loop-step-preserved
loop-step-preserved g c = record {
  so_far = steps_more _ c.args.steps.now c.loop-step.step-index c.step-item.result _ c.loop-step.left.now _ _ _ _ _ c.loop-step-test.true c.step-item.is c.split_own.ensures.own c.split_own.ensures.others c.in-Ok.ensures.value c.loop-step.invariant.so_far;
  space = omega (arith, size_more c.args.steps.now c.loop-step.step-index c.step-item.result _ c.loop-step.left.now _ _ c.loop-step-test.true c.step-item.is c.split_own.ensures.own c.split_own.ensures.others, c.in-Ok.ensures.held, c.loop-step.invariant.space);
}

pub returns : goal.returns
returns g c = steps_end _ c.args.steps.now c.loop-step.step-index _ _ _ c.loop-step-test.false c.loop-step.invariant.so_far
