use Rattle.std.proofs.Common.{arith}
use Rattle.bits.specs.Layout.{read}
use Rattle.bits.proofs.Lists.{more_step, more_ends, more_done}
use Rattle.packets.proofs.element.read_list.Goals as goal

pub returns-in-Err-clause-value : goal.returns-in-Err-clause-value
returns-in-Err-clause-value g c = more_ends (read g.T.Element.layout) _ _ _ _ _ _ c.loop-i-test.true c.in-Err.ensures c.loop-i.invariant.so_far

pub loop-i-preserved : goal.loop-i-preserved
loop-i-preserved g c = record {
  so_far = rw c.push.ensures.items (more_step (read g.T.Element.layout) _ _ _ _ _ _ _ c.loop-i-test.true c.in-Ok.ensures c.loop-i.invariant.so_far);
  space = omega (arith, c.push.ensures.len, c.loop-i.invariant.space);
}

pub returns-clause-value : goal.returns-clause-value
returns-clause-value g c = more_done (read g.T.Element.layout) _ _ _ _ _ c.loop-i-test.false c.loop-i.invariant.so_far
