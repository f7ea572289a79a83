-- What was reported gives the same from the last place of a step, of a fact or of its mark on, up to a place.
use Rattle.std.proofs.Common.{◌≡◌, ℤ, ◌≤ℤ◌, ◌<ℤ◌, List, [], ◌∷◌, Bool, true, false, cond, refl, arith}
use Rattle.std.specs.Prelude.{int_lt, not, ◌&&◌}
use Rattle.std.proofs.lemmas.Int.{ints}
use Rattle.track_store.specs.declared.profile.Step.{Step}
use Rattle.track_store.specs.Facts.{passed}
use Rattle.track_store.specs.Remembered.{Remembered, value_remembered}
use Rattle.track_store.specs.Changes.{later, last_step, last_in, last_fact}
use Rattle.track_store.specs.Profiles.{HoldsOver}
use Rattle.track_store.proofs.Lasting.{same_value}

later_above : (place last change : ℤ) → last ≤ℤ later place last change
later_above place last change =
    let cases : (a b : Bool) → int_lt last change ≡ a → last ≤ℤ cond (a && b) change last =
    elim [ true ↦ elim [ true ↦ λ e. grind (arith, ints) | false ↦ λ e. grind (arith, ints) ] | false ↦ λ b e. grind (arith, ints) ] in
    cases (int_lt last change) (int_lt change place) refl

later_below : (place last change : ℤ) → last <ℤ place → later place last change <ℤ place
later_below place last change h =
    let cases : (a b : Bool) → int_lt change place ≡ b → cond (a && b) change last <ℤ place =
    elim [ true ↦ elim [ true ↦ λ e. grind (arith, ints) | false ↦ λ e. h ] | false ↦ λ b e. h ] in
    cases (int_lt last change) (int_lt change place) refl

-- no change lies beyond the last one and before the place
later_same : (place last change from there : ℤ) → from ≤ℤ there → there <ℤ place → later place last change ≤ℤ from →
    int_lt there change ≡ int_lt from change
later_same place last change from there ahead before h =
    let cases : (a b : Bool) → int_lt last change ≡ a → int_lt change place ≡ b → cond (a && b) change last ≤ℤ from →
    int_lt there change ≡ int_lt from change =
    elim [
      | true ↦ elim [ true ↦ λ d e k. grind (arith, ints) | false ↦ λ d e k. grind (arith, ints) ]
      | false ↦ λ b d e k. grind (arith, ints)
    ] in
    cases (int_lt last change) (int_lt change place) refl refl h

module _ {A : Type 0} (place : ℤ) where
  step_above : (last : ℤ) (steps : List (Step A)) → last ≤ℤ last_step place last steps
  step_above last [] = omega (arith, ints)
  step_above last (step ∷ steps) =
      omega (arith, ints, later_above place last step.place, step_above (later place last step.place) steps)

  step_below : (last : ℤ) (steps : List (Step A)) → last <ℤ place → last_step place last steps <ℤ place
  step_below last [] h = h
  step_below last (step ∷ steps) h = step_below (later place last step.place) steps (later_below place last step.place h)

  in_above : (last : ℤ) (fact : Remembered A) → last ≤ℤ last_in place last fact
  in_above last fact =
      let began = later place last fact.start in
      omega (
        arith,
        ints,
        later_above place last fact.start,
        later_above place began fact.mark,
        step_above (later place began fact.mark) fact.steps,
      )

  in_below : (last : ℤ) (fact : Remembered A) → last <ℤ place → last_in place last fact <ℤ place
  in_below last fact h =
      step_below (later place (later place last fact.start) fact.mark) fact.steps
      (later_below place (later place last fact.start) fact.mark (later_below place last fact.start h))

  -- it isn't before the least place
  pub last_above : (last : ℤ) (facts : List (Remembered A)) → last ≤ℤ last_fact place last facts
  last_above last [] = omega (arith, ints)
  last_above last (fact ∷ facts) = omega (arith, ints, in_above last fact, last_above (last_in place last fact) facts)

  -- .. and lies before the place
  pub last_below : (last : ℤ) (facts : List (Remembered A)) → last <ℤ place → last_fact place last facts <ℤ place
  last_below last [] h = h
  last_below last (fact ∷ facts) h = last_below (last_in place last fact) facts (in_below last fact h)

module _ {A : Type 0} (place from there : ℤ) (ahead : from ≤ℤ there) (before : there <ℤ place) where
  step_same : (last : ℤ) (steps : List (Step A)) → last_step place last steps ≤ℤ from → passed there steps ≡ passed from steps
  step_same last [] h = refl
  step_same last (step ∷ steps) h =
      let so_far = later place last step.place in
      let here = later_same place last step.place from there ahead before (omega (arith, ints, step_above place so_far steps, h)) in
      let rest = step_same so_far steps h in
      λ i. cond (not (here i)) (step ∷ rest i) (rest i)

  fact_same : (last : ℤ) (facts : List (Remembered A)) → last_fact place last facts ≤ℤ from →
      value_remembered facts there ≡ value_remembered facts from
  fact_same last [] h = refl
  fact_same last (fact ∷ facts) h =
      let began = later place last fact.start in
      let marked = later place began fact.mark in
      let stepped : last_in place last fact ≤ℤ from = omega (arith, ints, last_above place (last_in place last fact) facts, h) in
      let to_mark : marked ≤ℤ from = omega (arith, ints, step_above place marked fact.steps, stepped) in
      let start = later_same place last fact.start from there ahead before (omega (arith, ints, later_above place began fact.mark, to_mark)) in
      let mark = later_same place began fact.mark from there ahead before to_mark in
      same_value facts fact from there start mark (step_same marked fact.steps stepped) (fact_same (last_in place last fact) facts h)

-- from the last of all places on, what was reported gives the same up to the place
pub holds : {A : Type 0} (place least from : ℤ) (facts : List (Remembered A)) → last_fact place least facts ≡ from →
    HoldsOver (value_remembered facts) (value_remembered facts from) from place
holds place least from facts is there ahead before = fact_same place from there ahead before least facts (omega (arith, ints, is))
