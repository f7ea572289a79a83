-- What steps give, and what is left of them.
use Rattle.std.proofs.Common.{◌≡◌, ℤ, List, ◌∷◌, true, false, refl}
use Rattle.std.specs.Prelude.{Option, None, Some, int_lt, is_none, if◌then◌else◌}
use Rattle.std.specs.List.{list_any}
use Rattle.track_store.specs.declared.profile.Step.{Step}
use Rattle.track_store.specs.Facts.{passed, last_value}

-- what the rest of the steps give at a place, where those before gave a value
abbrev pub given_from : {A : Type 0} → ℤ → Option A → List (Step A) → Option A
given_from place value steps =
    if list_any (λ step. is_none step.value) (passed place steps) then None else last_value value (passed place steps)

-- .. where the first of them counts: its value stands in place of the one before, or none of them gives one
pub given_more : {A : Type 0} (place : ℤ) (value : Option A) (step : Step A) (steps : List (Step A)) (v : A) →
    int_lt place step.place ≡ false → step.value ≡ Some v → given_from place value (step ∷ steps) ≡ given_from place (Some v) steps
given_more place value step steps v here is = rw here (rw is refl)

pub given_none : {A : Type 0} (place : ℤ) (value : Option A) (step : Step A) (steps : List (Step A)) →
    int_lt place step.place ≡ false → step.value ≡ None → given_from place value (step ∷ steps) ≡ None
given_none place value step steps here is = rw here (rw is refl)

-- .. where the first of them lies ahead
pub given_past : {A : Type 0} (place : ℤ) (value : Option A) (step : Step A) (steps : List (Step A)) →
    int_lt place step.place ≡ true → given_from place value (step ∷ steps) ≡ given_from place value steps
given_past place value step steps ahead = rw ahead refl
