use Rattle.std.proofs.Common.{arith}
use Rattle.bits.proofs.WritingLaws.{total_step}
use Rattle.bits.specs.Writing.{size}
use Rattle.bits.proofs.WritingLaws.{step, end}
use Rattle.packets.proofs.walk.list.Goals as goal

pub loop-element-preserved : goal.loop-element-preserved
loop-element-preserved g c = record {
  so_far = step _ c.args.elements.now c.loop-element.element-index c.element-item.result _ _ _ _ c.loop-element-test.true c.element-item.is c.in-Ok.ensures.value c.loop-element.invariant.so_far;
  space = omega (arith, total_step (λ x. size g.T.Element.layout x) c.args.elements.now c.loop-element.element-index c.element-item.result _ c.loop-element-test.true c.element-item.is, c.in-Ok.ensures.held, c.loop-element.invariant.space);
}

pub returns-clause-value : goal.returns-clause-value
returns-clause-value g c = end _ c.args.elements.now c.loop-element.element-index _ _ c.loop-element-test.false c.loop-element.invariant.so_far
