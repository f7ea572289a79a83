-- Where a profile may change next, and where it did last (this project's profile). Places are centimetres.
use Rattle.std.specs.Prelude.{ℤ, ◌&&◌, if◌then◌else◌, int_lt, Option, None, Some, List, [], ◌∷◌}
use Rattle.track_store.specs.declared.profile.Step.{Step}
use Rattle.track_store.specs.Remembered.{Remembered}

-- the nearer of the nearest place so far and of another one, which counts only ahead of a place
abbrev pub nearer : ℤ → Option ℤ → ℤ → Option ℤ
nearer place None change = if int_lt place change then Some change else None
nearer place (Some near) change = if int_lt place change && int_lt change near then Some change else Some near

-- .. of the places of steps
abbrev pub nearest_step : {A : Type 0} → ℤ → Option ℤ → List (Step A) → Option ℤ
nearest_step place near [] = near
nearest_step place near (step ∷ steps) = nearest_step place (nearer place near step.place) steps

-- .. of the places of a fact: where it begins, up to where it was forgotten, its steps
abbrev pub nearest_in : {A : Type 0} → ℤ → Option ℤ → Remembered A → Option ℤ
nearest_in place near fact = nearest_step place (nearer place (nearer place near fact.start) fact.mark) fact.steps

-- .. of the places of facts
abbrev pub nearest_fact : {A : Type 0} → ℤ → Option ℤ → List (Remembered A) → Option ℤ
nearest_fact place near [] = near
nearest_fact place near (fact ∷ facts) = nearest_fact place (nearest_in place near fact) facts

-- the later of the last place so far and of another one, which counts only before a place
abbrev pub later : ℤ → ℤ → ℤ → ℤ
later place last change = if int_lt last change && int_lt change place then change else last

-- .. of the places of steps
abbrev pub last_step : {A : Type 0} → ℤ → ℤ → List (Step A) → ℤ
last_step place last [] = last
last_step place last (step ∷ steps) = last_step place (later place last step.place) steps

-- .. of the places of a fact
abbrev pub last_in : {A : Type 0} → ℤ → ℤ → Remembered A → ℤ
last_in place last fact = last_step place (later place (later place last fact.start) fact.mark) fact.steps

-- .. of the places of facts
abbrev pub last_fact : {A : Type 0} → ℤ → ℤ → List (Remembered A) → ℤ
last_fact place last [] = last
last_fact place last (fact ∷ facts) = last_fact place (last_in place last fact) facts
