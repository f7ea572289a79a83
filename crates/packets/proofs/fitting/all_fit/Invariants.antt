use Rattle.std.proofs.Common.{◌≡◌, Some}
use Rattle.bits.proofs.Fitting.{FromOn}
use Rattle.bits.specs.Fitting.{Fits}
use Rattle.bits.specs.Writing.{value}
use Rattle.packets.proofs.fitting.all_fit.Given as goal

abbrev pub invariant-loop-element : goal.invariant-loop-element
invariant-loop-element g l = FromOn (λ d. Fits g.T.Element.layout d × (value g.T.Element.layout d ≡ Some d)) l.elements l.element-index
