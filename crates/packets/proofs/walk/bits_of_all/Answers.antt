use Rattle.std.proofs.Common.{arith}
use Rattle.bits.proofs.WritingLaws.{total_step}
use Rattle.bits.specs.Writing.{size}
use Rattle.packets.proofs.walk.bits_of_all.Goals as goal

pub loop-element-preserved : goal.loop-element-preserved
loop-element-preserved g c = record {
  so_far = omega (arith, total_step (λ x. size g.T.Element.layout x) c.args.elements.now c.loop-element.element-index c.element-item.result _ c.loop-element-test.true c.element-item.is, c.bits-total.ensures.value, c.loop-element.invariant.so_far);
  small = omega (arith, c.bits-total.ensures.bound, c.loop-element.invariant.small);
}
