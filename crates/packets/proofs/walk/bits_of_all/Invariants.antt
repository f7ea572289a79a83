use Rattle.std.proofs.Common.{◌≡◌, ◌+◌, ◌*◌, ◌≤◌, drop}
use Rattle.bits.specs.Sums.{total}
use Rattle.bits.specs.Writing.{size}
use Rattle.packets.proofs.walk.bits_of_all.Given as goal

abbrev pub invariant-loop-element : goal.invariant-loop-element
invariant-loop-element g l = record {
  so_far : l.total + total (λ x. size g.T.Element.layout x) (drop l.element-index l.elements) ≡ total (λ x. size g.T.Element.layout x) l.elements;
  small : l.total ≤ 64 * l.element-index;
}
