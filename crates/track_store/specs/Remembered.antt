-- A profile as a list of facts, each with what of it was forgotten since (this project's profile). The newest comes
-- first. Places are centimetres.
use Rattle.std.specs.Prelude.{ℕ, ◌+◌, ℤ, int_lt, Option, None, if◌then◌else◌, List, [], ◌∷◌, length}
use Rattle.std.specs.Int.{int_max}
use Rattle.track_store.specs.declared.profile.Step.{Step}
use Rattle.track_store.specs.Facts.{given_by, from_mark}
use Rattle.track_store.specs.Profiles.{Profile}

-- one fact, and the place before which it was forgotten since
pub record Remembered (A : Type 0) : Type 0 where
  pub start : ℤ
  pub steps : List (Step A)
  pub mark : ℤ

-- .. and what lies before a mark was forgotten, too
abbrev pub forgotten : {A : Type 0} → ℤ → Remembered A → Remembered A
forgotten mark fact = record fact { mark = int_max fact.mark mark }

-- the value at a place: that of the newest whose first place is at or below it
abbrev pub value_remembered : {A : Type 0} → List (Remembered A) → ℤ → Option A
value_remembered [] place = None
value_remembered (fact ∷ facts) place =
    if int_lt place fact.start then value_remembered facts place else from_mark fact.mark (given_by fact.steps) place

-- facts, and for how many more of them there is space
pub record Listed (A : Type 0) : Type 0 where
  pub facts : List (Remembered A)
  pub space : ℕ

abbrev pub value_listed : {A : Type 0} → Listed A → ℤ → Option A
value_listed listed = value_remembered listed.facts

abbrev pub profile_listed : {A : Type 0} → Listed A → Profile A
profile_listed listed = record { value = value_listed listed }

abbrev pub with_space : {A : Type 0} → ℕ → Listed A → Listed A
with_space space listed = record listed { space = space }

-- how many facts it keeps or has space for
abbrev pub size_of : {A : Type 0} → Listed A → ℕ
size_of listed = length listed.facts + listed.space
