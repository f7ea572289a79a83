use Rattle.std.proofs.Common.{arith}
use Rattle.bits.proofs.Lists.{folded_step, folded_ends, folded_done}
use Rattle.packets.specs.Layouts.{static_step}
use Rattle.packets.proofs.static_speeds.reading.read_steps.Goals as goal

pub returns-in-Err : goal.returns-in-Err
returns-in-Err c = folded_ends static_step _ _ _ _ _ _ c.loop-i-test.true c.in-Err.ensures.value c.loop-i.invariant.so_far

pub loop-i-preserved : goal.loop-i-preserved
loop-i-preserved c = record {
  so_far = folded_step static_step _ _ _ _ _ _ _ c.loop-i-test.true c.in-Ok.ensures.value c.loop-i.invariant.so_far;
  few = omega (arith, c.in-Ok.ensures.len, c.loop-i.invariant.few);
  space = c.in-Ok.ensures.space;
}

pub returns : goal.returns
returns c = folded_done static_step _ _ _ _ _ c.loop-i-test.false c.loop-i.invariant.so_far
