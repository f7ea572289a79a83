-- A list that begins with an element, as its layout wants it.
use Rattle.std.proofs.Common.{◌≡◌, ◌≤◌, ◌↔◌, nat_eq, false, List, [], ◌∷◌, Some, length, refl, arith}
use Rattle.std.specs.List.{AllByRecursion as Each}
use Rattle.bits.specs.Fitting.{Fits}
use Rattle.bits.specs.Layout.{Layout}
use Rattle.bits.specs.Writing.{value}
use Rattle.vars.proofs.Numbers.{n_iter_has}
use Rattle.packets.specs.Parts.{FromFirstFits}
use Rattle.packets.specs.declared.fault.PacketFault.{PacketFault}

pub first_fits : {D : Type 0} (m : Layout PacketFault D D) (xs : List D) → nat_eq (length xs) 0 ≡ false → length xs ≤ 32 → Each (λ d. Fits m d × (value m d ≡ Some d)) xs ↔ FromFirstFits m xs
first_fits m [] some few = absurd cc
first_fits m (x ∷ xs) some few = (
  λ h. ((refl, refl, (h.0, tt)), n_iter_has _ (omega arith), (refl, omega arith, h.1)),
  λ f. (f.0.2.0, f.2.2),
)
