-- A sector that was taken.
use Rattle.std.proofs.Common.{◌≡◌, ℕ, ◌==◌, ◌&&◌, Bool, true, List, length, nat_lt, refl, sym, ◌∙◌, ap, subst}
use Rattle.relayed_unit.specs.Openings.{Opening}
use Rattle.unit_calls.specs.Requests.{IfElse}
use Rattle.unit_calls.specs.declared.status.Status.TheVariants as a_status
use Rattle.unit_calls.specs.Openings.{IsProvided, Provides}

pub takes : (sector : ℕ) (bytes : List ℕ) (before after : Opening) → length bytes ≡ 512 → nat_lt sector before.disk.sectors ≡ true
    → IsProvided sector bytes before after → Provides sector bytes before after a_status.Done
takes sector bytes before after whole below provided =
    let below_with : ((length bytes == 512) && nat_lt sector before.disk.sectors) ≡ true =
    ap (λ (n : ℕ). (n == 512) && nat_lt sector before.disk.sectors) whole ∙ below in
    let W : Bool → Type 0 = λ b. IfElse b ((a_status.Done ≡ a_status.Done) × IsProvided sector bytes before after)
    ((a_status.Done ≡ a_status.OutOfRange) × (after ≡ before)) in
    subst W (sym below_with) (refl, provided)
