-- What is left once the segments that lie wholly before a mark are dropped.
use Rattle.std.proofs.Common.{◌≡◌, ℕ, zero, suc, ◌-◌, drop, ℤ, ◌≤ℤ◌, ◌<ℤ◌, List, [], ◌∷◌, true, false, refl, ap, subst, ◌∙◌, arith}
use Rattle.std.proofs.lemmas.Int.{ints}
use Rattle.track_store.specs.declared.segments.Segment.{Segment}
use Rattle.track_store.specs.Facts.{from_mark}
use Rattle.track_store.specs.Segments.{value_of_segments, IsStarted, IsKeptAfterFirst, is_first_passed}
use Rattle.track_store.proofs.Apart.{value_of_rest, kept_rest}

module _ {A : Type 0} where
  -- the first one is passed where two start at or below the mark
  passed : (mark : ℤ) (segments : List (Segment A)) (count : ℕ) → IsStarted mark segments (suc (suc count)) → is_first_passed mark segments ≡ true
  passed mark [] count started = absurd (omega (arith, started.0))
  passed mark (first ∷ []) count started = absurd (omega (arith, started.0))
  passed mark (first ∷ second ∷ segments) count started =
      let here : second.start ≤ℤ mark = started.1.0 1 second (omega arith) (omega arith) in
      grind (arith, ints)

  -- without it one fewer starts there
  one_fewer : (mark : ℤ) (first : Segment A) (segments : List (Segment A)) (count : ℕ) → IsStarted mark (first ∷ segments) (suc count) →
      IsStarted mark segments count
  one_fewer mark first segments count started = (
    omega (arith, started.0),
    (λ k d a b. started.1.0 (suc k) d (omega arith) (omega (arith, b)), λ k d a b. started.1.1 (suc k) d (omega (arith, a)) (omega (arith, b))),
  )

  value_of_others : (mark : ℤ) (segments : List (Segment A)) (count : ℕ) → IsStarted mark segments (suc count) → (place : ℤ) →
      from_mark mark (value_of_segments (drop count segments)) place ≡ from_mark mark (value_of_segments segments) place
  value_of_others mark segments zero started place = refl
  value_of_others mark [] (suc count) started place = refl
  value_of_others mark (first ∷ segments) (suc count) started place =
      value_of_others mark segments count (one_fewer mark first segments (suc count) started) place
      ∙ value_of_rest mark (first ∷ segments) (passed mark (first ∷ segments) count started) place

  pub kept_others : (segments : List (Segment A)) (count : ℕ) → IsKeptAfterFirst segments → IsKeptAfterFirst (drop count segments)
  kept_others segments zero kept = kept
  kept_others [] (suc count) kept = tt
  kept_others (first ∷ segments) (suc count) kept = kept_others segments count (kept_rest (first ∷ segments) kept)

  none_passed : (mark : ℤ) (segments : List (Segment A)) (count : ℕ) → IsStarted mark segments (suc count) →
      is_first_passed mark (drop count segments) ≡ false
  none_passed mark [] count started = absurd (omega (arith, started.0))
  none_passed mark (first ∷ []) zero started = refl
  none_passed mark (first ∷ second ∷ segments) zero started =
      let here : mark <ℤ second.start = started.1.1 1 second (omega arith) (omega arith) in
      grind (arith, ints)
  none_passed mark (first ∷ segments) (suc count) started = none_passed mark segments count (one_fewer mark first segments (suc count) started)

  -- all but the last one of those that start at or below the mark are dropped
  pub value_of_left : (mark : ℤ) (segments : List (Segment A)) (count passed : ℕ) → passed ≡ count - 1 → IsStarted mark segments count → (place : ℤ) →
      from_mark mark (value_of_segments (drop passed segments)) place ≡ from_mark mark (value_of_segments segments) place
  value_of_left mark segments count zero is started place = refl
  value_of_left mark segments count (suc passed) is started place =
      let all : count ≡ suc (suc passed) = omega (arith, is) in
      value_of_others mark segments (suc passed) (subst (IsStarted mark segments) all started) place

  pub none_left : (mark : ℤ) (segments : List (Segment A)) (count passed : ℕ) → passed ≡ count - 1 → IsStarted mark segments count →
      is_first_passed mark (drop passed segments) ≡ false
  none_left mark segments (suc count) passed is started =
      let all : passed ≡ count = omega (arith, is) in
      ap (λ n. is_first_passed mark (drop n segments)) all ∙ none_passed mark segments count started
  none_left mark segments zero (suc passed) is started = absurd (omega (arith, is))
  none_left mark [] zero zero is started = refl
  none_left mark (first ∷ []) zero zero is started = refl
  none_left mark (first ∷ second ∷ segments) zero zero is started =
      let here : mark <ℤ second.start = started.1.1 1 second (omega arith) (omega arith) in
      grind (arith, ints)
