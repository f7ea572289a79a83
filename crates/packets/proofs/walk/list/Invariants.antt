use Rattle.std.proofs.Common.{◌≡◌, ◌+◌, ◌≤◌, drop}
use Rattle.bits.specs.Sums.{total}
use Rattle.bits.specs.Writing.{each_taken, taken, size}
use Rattle.packets.proofs.walk.list.Given as goal

abbrev pub invariant-loop-element : goal.invariant-loop-element
invariant-loop-element g l = record {
  so_far : each_taken (λ x s. taken g.S.FieldSink.took g.T.Element.layout x s) (drop l.element-index l.elements) (g.S.FieldSink.seen l.sink) ≡ each_taken (λ x s. taken g.S.FieldSink.took g.T.Element.layout x s) l.elements (g.S.FieldSink.seen l.fn.sink);
  space : g.S.FieldSink.held l.sink + total (λ x. size g.T.Element.layout x) (drop l.element-index l.elements) ≤ g.S.FieldSink.held l.fn.sink + total (λ x. size g.T.Element.layout x) l.elements;
}
