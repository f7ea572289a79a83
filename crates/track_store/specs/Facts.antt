-- A profile read off its facts of one life (SUBSET-026, 3.7.1.1, 3.11; 7.4.2, packets 21 and 27; the forgetting mark:
-- this project's profile). Lists of facts have the newest first. Places are centimetres, moments milliseconds.
use Rattle.std.specs.Prelude.{ℤ, not, int_lt, Option, None, is_none, if◌then◌else◌, List, [], ◌∷◌, filter}
use Rattle.std.specs.List.{list_any}
use Rattle.track_store.specs.declared.profile.Step.{Step}
use Rattle.track_store.specs.Profiles.{Profile}

-- the steps at or below a place
abbrev pub passed : {A : Type 0} → ℤ → List (Step A) → List (Step A)
passed place steps = filter (λ step. not (int_lt place step.place)) steps

-- the value of the last step, and without a step another one
abbrev pub last_value : {A : Type 0} → Option A → List (Step A) → Option A
last_value otherwise [] = otherwise
last_value otherwise (step ∷ steps) = last_value step.value steps

-- what steps give at a place: the value of the last one at or below it; none where no step or an end mark (a step
-- without a value) is at or below it
abbrev pub given_by : {A : Type 0} → List (Step A) → ℤ → Option A
given_by steps place =
    if list_any (λ step. is_none step.value) (passed place steps) then None else last_value None (passed place steps)

-- one fact: a profile from a first place on
pub record Fact (A : Type 0) : Type 0 where
  pub start : ℤ
  pub steps : List (Step A)

-- what the latest fact gives at a place whose first place is at or below it
abbrev pub latest : {A : Type 0} → List (Fact A) → ℤ → Option A
latest [] place = None
latest (fact ∷ facts) place = if int_lt place fact.start then latest facts place else given_by fact.steps place

-- the facts, and the forgetting mark
pub record MarkedFacts (A : Type 0) : Type 0 where
  pub mark : ℤ
  pub facts : List (Fact A)

-- a profile without what lies below a mark
abbrev pub from_mark : {A : Type 0} → ℤ → (ℤ → Option A) → ℤ → Option A
from_mark mark value place = if int_lt place mark then None else value place

-- the value that counts at a place
abbrev pub value_in : {A : Type 0} → MarkedFacts A → ℤ → Option A
value_in reported = from_mark reported.mark (latest reported.facts)

abbrev pub profile_of : {A : Type 0} → MarkedFacts A → Profile A
profile_of reported = record { value = value_in reported }

-- a profile that steps replace from a first place on
abbrev pub replaced : {A : Type 0} → (ℤ → Option A) → ℤ → List (Step A) → ℤ → Option A
replaced value start steps place = if int_lt place start then value place else given_by steps place
