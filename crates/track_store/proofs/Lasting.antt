-- What was reported gives the same up to the nearest place of a step, of a fact or of its mark.
use Rattle.std.proofs.Common.{◌≡◌, ℤ, ◌≤ℤ◌, ◌<ℤ◌, List, [], ◌∷◌, Bool, true, false, cond, refl, arith}
use Rattle.std.specs.Prelude.{Option, None, Some, int_lt, not, ◌&&◌, is_none}
use Rattle.std.specs.List.{list_any}
use Rattle.std.proofs.lemmas.Int.{ints}
use Rattle.track_store.specs.declared.profile.Step.{Step}
use Rattle.track_store.specs.Facts.{passed, last_value}
use Rattle.track_store.specs.Remembered.{Remembered, value_remembered}
use Rattle.track_store.specs.Changes.{nearer, nearest_step, nearest_in, nearest_fact}
use Rattle.track_store.specs.Profiles.{Lasts}

-- a later place lies before the nearest
abbrev pub IsBefore : ℤ → Option ℤ → Type 0
IsBefore later None = Unit {0}
IsBefore later (Some near) = later <ℤ near

-- the nearest lies ahead of a place
abbrev pub IsAhead : ℤ → Option ℤ → Type 0
IsAhead place None = Unit {0}
IsAhead place (Some near) = place <ℤ near

nearer_ahead : (place : ℤ) (near : Option ℤ) (change : ℤ) → IsAhead place near → IsAhead place (nearer place near change)
nearer_ahead place None change h =
    let cases : (a : Bool) → int_lt place change ≡ a → IsAhead place (cond a (Some change) None) =
    elim [ true ↦ λ e. grind (arith, ints) | false ↦ λ e. h ] in
    cases (int_lt place change) refl
nearer_ahead place (Some near) change h =
    let cases : (a b : Bool) → int_lt place change ≡ a → IsAhead place (cond (a && b) (Some change) (Some near)) =
    elim [ true ↦ elim [ true ↦ λ e. grind (arith, ints) | false ↦ λ e. h ] | false ↦ λ b e. h ] in
    cases (int_lt place change) (int_lt change near) refl

nearer_before : (place : ℤ) (near : Option ℤ) (change later : ℤ) → IsBefore later (nearer place near change) → IsBefore later near
nearer_before place None change later h = tt
nearer_before place (Some near) change later h =
    let cases : (a b : Bool) → int_lt change near ≡ b → IsBefore later (cond (a && b) (Some change) (Some near)) → later <ℤ near =
    elim [ true ↦ elim [ true ↦ λ e k. grind (arith, ints) | false ↦ λ e k. k ] | false ↦ λ b e k. k ] in
    cases (int_lt place change) (int_lt change near) refl h

-- the same changes lie ahead of a place and of a later one that lies before the nearest
nearer_same : (place : ℤ) (near : Option ℤ) (change later : ℤ) → place ≤ℤ later → IsBefore later (nearer place near change) →
    int_lt later change ≡ int_lt place change
nearer_same place None change later ahead h =
    let cases : (a : Bool) → int_lt place change ≡ a → IsBefore later (cond a (Some change) None) → int_lt later change ≡ a =
    elim [ true ↦ λ e k. grind (arith, ints) | false ↦ λ e k. grind (arith, ints) ] in
    cases (int_lt place change) refl h
nearer_same place (Some near) change later ahead h =
    let cases : (a b : Bool) → int_lt place change ≡ a → int_lt change near ≡ b →
    IsBefore later (cond (a && b) (Some change) (Some near)) → int_lt later change ≡ a =
    elim [
      | true ↦ elim [ true ↦ λ d e k. grind (arith, ints) | false ↦ λ d e k. grind (arith, ints) ]
      | false ↦ λ b d e k. grind (arith, ints)
    ] in
    cases (int_lt place change) (int_lt change near) refl refl h

-- two places of one value: the same of a fact's places lie ahead of them, and what was reported before gives them the same
pub same_value : {A : Type 0} (facts : List (Remembered A)) (fact : Remembered A) (here there : ℤ) →
    int_lt there fact.start ≡ int_lt here fact.start → int_lt there fact.mark ≡ int_lt here fact.mark →
    passed there fact.steps ≡ passed here fact.steps → value_remembered facts there ≡ value_remembered facts here →
    value_remembered (fact ∷ facts) there ≡ value_remembered (fact ∷ facts) here
same_value facts fact here there start mark steps rest =
    λ i. cond (start i) (rest i)
    (cond (mark i) None (cond (list_any (λ step. is_none step.value) (steps i)) None (last_value None (steps i))))

module _ {A : Type 0} (place : ℤ) where
  step_ahead : (near : Option ℤ) (steps : List (Step A)) → IsAhead place near → IsAhead place (nearest_step place near steps)
  step_ahead near [] h = h
  step_ahead near (step ∷ steps) h = step_ahead (nearer place near step.place) steps (nearer_ahead place near step.place h)

  step_before : (near : Option ℤ) (steps : List (Step A)) (later : ℤ) → IsBefore later (nearest_step place near steps) →
      IsBefore later near
  step_before near [] later h = h
  step_before near (step ∷ steps) later h =
      nearer_before place near step.place later (step_before (nearer place near step.place) steps later h)

  step_same : (near : Option ℤ) (steps : List (Step A)) (later : ℤ) → place ≤ℤ later →
      IsBefore later (nearest_step place near steps) → passed later steps ≡ passed place steps
  step_same near [] later ahead h = refl
  step_same near (step ∷ steps) later ahead h =
      let here = nearer_same place near step.place later ahead (step_before (nearer place near step.place) steps later h) in
      let rest = step_same (nearer place near step.place) steps later ahead h in
      λ i. cond (not (here i)) (step ∷ rest i) (rest i)

  in_ahead : (near : Option ℤ) (fact : Remembered A) → IsAhead place near → IsAhead place (nearest_in place near fact)
  in_ahead near fact h =
      step_ahead (nearer place (nearer place near fact.start) fact.mark) fact.steps
      (nearer_ahead place (nearer place near fact.start) fact.mark (nearer_ahead place near fact.start h))

  in_before : (near : Option ℤ) (fact : Remembered A) (later : ℤ) → IsBefore later (nearest_in place near fact) → IsBefore later near
  in_before near fact later h =
      nearer_before place near fact.start later (nearer_before place (nearer place near fact.start) fact.mark later
      (step_before (nearer place (nearer place near fact.start) fact.mark) fact.steps later h))

  fact_ahead : (near : Option ℤ) (facts : List (Remembered A)) → IsAhead place near → IsAhead place (nearest_fact place near facts)
  fact_ahead near [] h = h
  fact_ahead near (fact ∷ facts) h = fact_ahead (nearest_in place near fact) facts (in_ahead near fact h)

  fact_before : (near : Option ℤ) (facts : List (Remembered A)) (later : ℤ) → IsBefore later (nearest_fact place near facts) →
      IsBefore later near
  fact_before near [] later h = h
  fact_before near (fact ∷ facts) later h = in_before near fact later (fact_before (nearest_in place near fact) facts later h)

  fact_same : (near : Option ℤ) (facts : List (Remembered A)) (later : ℤ) → place ≤ℤ later →
      IsBefore later (nearest_fact place near facts) → value_remembered facts later ≡ value_remembered facts place
  fact_same near [] later ahead h = refl
  fact_same near (fact ∷ facts) later ahead h =
      let began = nearer place near fact.start in
      let marked = nearer place began fact.mark in
      let k = fact_before (nearest_in place near fact) facts later h in
      let to_mark = step_before marked fact.steps later k in
      let start = nearer_same place near fact.start later ahead (nearer_before place began fact.mark later to_mark) in
      let mark = nearer_same place began fact.mark later ahead to_mark in
      let steps = step_same marked fact.steps later ahead k in
      let rest = fact_same (nearest_in place near fact) facts later ahead h in
      same_value facts fact place later start mark steps rest

  lasts_up_to : (value : ℤ → Option A) (near : Option ℤ) → IsAhead place near →
      ((later : ℤ) → place ≤ℤ later → IsBefore later near → value later ≡ value place) → Lasts value place near
  lasts_up_to value None ahead same = λ later a. same later a tt
  lasts_up_to value (Some near) ahead same = (ahead, same)

  -- up to the nearest of all places, what was reported gives the same
  pub lasts : (facts : List (Remembered A)) (near : Option ℤ) → nearest_fact place None facts ≡ near →
      Lasts (value_remembered facts) place near
  lasts facts near is =
      rw (← is) (lasts_up_to (value_remembered facts) (nearest_fact place None facts) (fact_ahead None facts tt)
      (λ later a h. fact_same None facts later a h))
