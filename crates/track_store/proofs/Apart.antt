-- Segments stay apart: in order, with no two neighbours of one value.
use Rattle.std.proofs.Common.{◌≡◌, ◌≢◌, ℕ, zero, suc, ◌+◌, length, get_or, ℤ, ◌≤ℤ◌, ◌<ℤ◌, List, [], ◌∷◌, ◌++◌, Bool, true, false, cond, refl, ap, sym, subst, ◌∙◌, arith}
use Rattle.std.specs.Prelude.{Option, None, int_lt, filter}
use Rattle.std.specs.List.{remove}
use Rattle.std.specs.Int.{int_max}
use Rattle.std.proofs.lemmas.Int.{ints, by_lt_z}
use Rattle.track_store.specs.declared.segments.Segment.{Segment}
use Rattle.track_store.specs.Facts.{from_mark}
use Rattle.track_store.specs.Segments.{value_among, value_of_segments, value_at_end, IsRisingFrom, IsRising, AreApart, IsKept, IsKeptAfterFirst, is_first_passed, first_cut}
use Rattle.track_store.proofs.Segmenting.{below, not_below, before_rising, rising_cut, rising_of}

module _ {A : Type 0} where
  -- the value after all starts is that of the last segment
  pub beyond_last : (otherwise : Option A) (segments : List (Segment A)) (i : ℕ) (d : Segment A) → i + 1 ≡ length segments →
      value_at_end otherwise segments ≡ (get_or segments i d).value
  beyond_last otherwise [] i d h = absurd (omega arith)
  beyond_last otherwise (s ∷ []) zero d h = refl
  beyond_last otherwise (s ∷ []) (suc i) d h = absurd (omega arith)
  beyond_last otherwise (s ∷ t ∷ segments) zero d h = absurd (omega arith)
  beyond_last otherwise (s ∷ t ∷ segments) (suc i) d h = beyond_last s.value (t ∷ segments) i d (omega arith)

  -- of segments that rise, those that start below a place are the first ones
  none_before : (place low : ℤ) (segments : List (Segment A)) → place ≤ℤ low → IsRisingFrom low segments →
      filter (λ s. int_lt s.start place) segments ≡ []
  none_before place low [] h r = refl
  none_before place low (s ∷ segments) h r =
      let beyond : place ≤ℤ s.start = omega (arith, ints, h, r.0) in
      rw (not_below s.start place beyond) (none_before place s.start segments beyond r.1)

  apart_front : (place : ℤ) (before : Option A) (segments : List (Segment A)) → IsRising segments → AreApart before segments →
      AreApart before (filter (λ s. int_lt s.start place) segments)
  apart_front place before [] r a = tt
  apart_front place before (s ∷ segments) r a =
      let rest = filter (λ s. int_lt s.start place) segments in
      let cases : (b : Bool) → int_lt s.start place ≡ b → AreApart before (cond b (s ∷ rest) rest) =
      elim [
        | true ↦ λ e. (a.0, apart_front place s.value segments (rising_of s.start segments r) a.1)
        | false ↦ λ e. (let k : place ≤ℤ s.start = grind (arith, ints) in subst (AreApart before) (sym (none_before place s.start segments k r)) tt)
      ] in
      cases (int_lt s.start place) refl

  rising_front_from : (place low : ℤ) (segments : List (Segment A)) → IsRisingFrom low segments →
      IsRisingFrom low (filter (λ s. int_lt s.start place) segments)
  rising_front_from place low [] r = tt
  rising_front_from place low (s ∷ segments) r =
      let rest = filter (λ s. int_lt s.start place) segments in
      let cases : (b : Bool) → int_lt s.start place ≡ b → IsRisingFrom low (cond b (s ∷ rest) rest) =
      elim [
        | true ↦ λ e. (r.0, rising_front_from place s.start segments r.1)
        | false ↦ λ e. (let k : place ≤ℤ s.start = grind (arith, ints) in subst (IsRisingFrom low) (sym (none_before place s.start segments k r.1)) tt)
      ] in
      cases (int_lt s.start place) refl

  rising_front : (place : ℤ) (segments : List (Segment A)) → IsRising segments → IsRising (filter (λ s. int_lt s.start place) segments)
  rising_front place [] r = tt
  rising_front place (s ∷ segments) r =
      let rest = filter (λ s. int_lt s.start place) segments in
      let cases : (b : Bool) → int_lt s.start place ≡ b → IsRising (cond b (s ∷ rest) rest) =
      elim [
        | true ↦ λ e. rising_front_from place s.start segments r
        | false ↦ λ e. (let k : place ≤ℤ s.start = grind (arith, ints) in subst IsRising (sym (none_before place s.start segments k r)) tt)
      ] in
      cases (int_lt s.start place) refl

  apart_append : (before : Option A) (segments : List (Segment A)) (s : Segment A) → AreApart before segments →
      value_at_end before segments ≢ s.value → AreApart before (segments ++ s ∷ [])
  apart_append before [] s a other = (other, tt)
  apart_append before (t ∷ segments) s a other = (a.0, apart_append t.value segments s a.1 other)

  -- those that start below a place, with no other one or one more of another value
  pub kept_front : (place : ℤ) (segments : List (Segment A)) → IsKept segments → IsKept (filter (λ s. int_lt s.start place) segments)
  kept_front place segments k = (rising_front place segments k.0, apart_front place None segments k.0 k.1)

  pub kept_cut : (place : ℤ) (value : Option A) (segments : List (Segment A)) → IsKept segments →
      value_at_end None (filter (λ s. int_lt s.start place) segments) ≢ value →
      IsKept (filter (λ s. int_lt s.start place) segments ++ record { start = place; value = value } ∷ [])
  kept_cut place value segments k other = (
    rising_cut place value segments k.0,
    apart_append None (filter (λ s. int_lt s.start place) segments) (record { start = place; value = value }) (apart_front place None segments k.0 k.1) other,
  )

  -- without the first segment, where it lies wholly before a mark, the same counts
  pub value_of_rest : (mark : ℤ) (segments : List (Segment A)) → is_first_passed mark segments ≡ true → (place : ℤ) →
      from_mark mark (value_of_segments (remove segments 0)) place ≡ from_mark mark (value_of_segments segments) place
  value_of_rest mark [] h place = absurd cc
  value_of_rest mark (first ∷ []) h place = absurd cc
  value_of_rest mark (first ∷ second ∷ segments) h place =
      by_lt_z place mark
      (λ (k : place <ℤ mark). rw (below place mark k))
      (λ (k : mark ≤ℤ place). (let beyond : second.start ≤ℤ place = grind (arith, ints) in
      let rest : value_among None (second ∷ segments) place ≡ value_among second.value segments place = rw (not_below place second.start beyond) in
      let all : value_among None (first ∷ second ∷ segments) place ≡ value_among second.value segments place = rw (not_below place second.start beyond) in
      rw (not_below place mark k) (rest ∙ sym all)))

  pub kept_rest : (segments : List (Segment A)) → IsKeptAfterFirst segments → IsKeptAfterFirst (remove segments 0)
  kept_rest [] k = tt
  kept_rest (first ∷ []) k = tt
  kept_rest (first ∷ second ∷ segments) k = (k.0.1, k.1.1)

  pub kept_after_first : (segments : List (Segment A)) → IsKept segments → IsKeptAfterFirst segments
  kept_after_first [] k = tt
  kept_after_first (first ∷ segments) k = (k.0, k.1.1)

  -- what follows the first segment starts after a mark before which it doesn't lie wholly
  rest_ahead : (mark : ℤ) (first : Segment A) (segments : List (Segment A)) → is_first_passed mark (first ∷ segments) ≡ false →
      IsRisingFrom first.start segments → IsRisingFrom mark segments
  rest_ahead mark first [] h r = tt
  rest_ahead mark first (second ∷ segments) h r = (grind (arith, ints), r.1)

  rest_ahead_of_both : (a b : ℤ) (segments : List (Segment A)) → IsRisingFrom a segments → IsRisingFrom b segments → IsRisingFrom (int_max a b) segments
  rest_ahead_of_both a b [] r s = tt
  rest_ahead_of_both a b (first ∷ segments) r s = (
    let k : a <ℤ first.start = r.0 in
        let l : b <ℤ first.start = s.0 in
        grind (arith, ints),
    r.1,
  )

  pub kept_first_cut : (mark : ℤ) (segments : List (Segment A)) → is_first_passed mark segments ≡ false → IsKeptAfterFirst segments →
      IsKeptAfterFirst (first_cut mark segments)
  kept_first_cut mark [] h k = tt
  kept_first_cut mark (first ∷ segments) h k =
      (rest_ahead_of_both first.start mark segments k.0 (rest_ahead mark first segments h k.0), k.1)

  none_from : (mark place : ℤ) (value : Option A) → value ≡ None → value ≡ cond (int_lt place mark) None None
  none_from mark place value is = by_lt_z place mark (λ h. rw (below place mark h) is) (λ h. rw (not_below place mark h) is)

  -- the first segment cut off at the mark, all counts from there on
  pub value_of_first_cut : (mark : ℤ) (segments : List (Segment A)) → is_first_passed mark segments ≡ false → IsKeptAfterFirst segments → (place : ℤ) →
      value_of_segments (first_cut mark segments) place ≡ from_mark mark (value_of_segments segments) place
  value_of_first_cut mark [] h k place = none_from mark place None refl
  value_of_first_cut mark (first ∷ segments) h k place =
      let start = int_max first.start mark in
      by_lt_z place mark
      (λ (l : place <ℤ mark).
      let early : place <ℤ start = grind (arith, ints) in
      ap (λ b. value_among (cond b None first.value) segments place) (below place start early)
      ∙ before_rising None mark place segments (rest_ahead mark first segments h k.0) (omega (arith, ints, l))
      ∙ sym (ap (λ b. cond b None (value_of_segments (first ∷ segments) place)) (below place mark l)))
      (λ (l : mark ≤ℤ place).
      let same : int_lt place start ≡ int_lt place first.start = grind (arith, ints) in
      ap (λ b. value_among (cond b None first.value) segments place) same
      ∙ sym (ap (λ b. cond b None (value_of_segments (first ∷ segments) place)) (not_below place mark l)))
