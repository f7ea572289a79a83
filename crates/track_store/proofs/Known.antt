-- Segments of which each has a value, between the last one that starts at or below a place and another place.
use Rattle.std.proofs.Common.{◌≡◌, ℕ, zero, suc, ◌+◌, ◌<◌, ◌≤◌, ℤ, ◌≤ℤ◌, ◌<ℤ◌, List, [], ◌∷◌, length, get_or, ap, subst, arith}
use Rattle.std.proofs.Math.Nat.{lt_of_not-le}
use Rattle.std.specs.Prelude.{Option, None, IsSome, is_none}
use Rattle.std.specs.List.{AllWithin}
use Rattle.std.proofs.lemmas.Int.{ints, by_lt_z}
use Rattle.track_store.specs.declared.segments.Segment.{Segment}
use Rattle.track_store.specs.Profiles.{IsKnownThroughout}
use Rattle.track_store.specs.Segments.{value_among, value_of_segments, IsRising, IsStarted, IsStartedBelow}
use Rattle.track_store.proofs.Segmenting.{below, not_below}
use Rattle.track_store.proofs.Throughout.{none_known}
use Rattle.track_store.proofs.Searching.{in_order, apart, last_among, all_ahead}

module _ {A : Type 0} where
  known_among : (otherwise : Option A) (place : ℤ) (segments : List (Segment A)) (d : Segment A) →
      ((k : ℕ) → k < length segments → (get_or segments k d).start ≤ℤ place → IsSome (get_or segments k d).value) →
      IsSome otherwise → IsSome (value_among otherwise segments place)
  known_among otherwise place [] d each some = some
  known_among otherwise place (s ∷ segments) d each some =
      by_lt_z place s.start
      (λ (ahead : place <ℤ s.start). rw (below place s.start ahead) (known_among otherwise place segments d (λ k a. each (suc k) (omega arith)) some))
      (λ (here : s.start ≤ℤ place). rw (not_below place s.start here)
      (known_among s.value place segments d (λ k a. each (suc k) (omega arith)) (each 0 (omega arith) here)))

  -- where each segment from one on that starts at or below a place has a value, the place has one
  known_from : (otherwise : Option A) (place : ℤ) (segments : List (Segment A)) (first : ℕ) (d : Segment A) → first < length segments →
      (get_or segments first d).start ≤ℤ place →
      ((k : ℕ) → first ≤ k → k < length segments → (get_or segments k d).start ≤ℤ place → IsSome (get_or segments k d).value) →
      IsSome (value_among otherwise segments place)
  known_from otherwise place [] first d within at each = absurd (omega arith)
  known_from otherwise place (s ∷ segments) zero d within at each =
      rw (not_below place s.start at)
      (known_among s.value place segments d (λ k a. each (suc k) (omega arith) (omega arith)) (each 0 (omega arith) (omega arith) at))
  known_from otherwise place (s ∷ segments) (suc first) d within at each =
      by_lt_z place s.start
      (λ (ahead : place <ℤ s.start). rw (below place s.start ahead)
      (known_from otherwise place segments first d (omega arith) at (λ k a b. each (suc k) (omega arith) (omega arith))))
      (λ (here : s.start ≤ℤ place). rw (not_below place s.start here)
      (known_from s.value place segments first d (omega arith) at (λ k a b. each (suc k) (omega arith) (omega arith))))

  module _ (from end : ℤ) (segments : List (Segment A)) (first last : ℕ) (rising : IsRising segments) (ordered : from <ℤ end)
      (started : IsStarted from segments (first + 1)) (before : IsStartedBelow end segments last) where
    -- the segment at the first place starts below the other one
    pub first_below : first < last
    first_below = lt_of_not-le (λ (later : last ≤ first).
        let d : Segment A = record { start = from; value = None } in
        let at : (get_or segments first d).start ≤ℤ from = started.1.0 first d (omega arith) (omega arith) in
        let ahead : end ≤ℤ (get_or segments first d).start = before.1.1 first d later (omega (arith, started.0)) in
        absurd (omega (arith, ints, at, ahead, ordered)))

    -- each of the segments between has a value: each place has one
    pub known_all : AllWithin (λ (s : Segment A). IsSome s.value) segments first last → IsKnownThroughout (value_of_segments segments) from end
    known_all each place a b =
        let d : Segment A = record { start = place; value = None } in
        let at : (get_or segments first d).start ≤ℤ from = started.1.0 first d (omega arith) (omega arith) in
        known_from None place segments first d (omega (arith, started.0)) (omega (arith, ints, at, a))
        (λ k h in_list start. each k d h (lt_of_not-le (λ (later : last ≤ k).
        let ahead : end ≤ℤ (get_or segments k d).start = before.1.1 k d later in_list in
        absurd (omega (arith, ints, ahead, start, b)))))

    -- and the other way
    pub known_each : IsKnownThroughout (value_of_segments segments) from end → AllWithin (λ (s : Segment A). IsSome s.value) segments first last
    known_each known k d a b =
        let within : k < length segments = omega (arith, b, before.0) in
        let start : ℤ = (get_or segments k d).start in
        let below_end : start <ℤ end = before.1.0 k d (omega arith) b in
        by_lt_z from start
        (λ (later : from <ℤ start).
        subst IsSome (last_among None start segments k d within
        (λ j h. in_order segments j k d d rising h within) (λ j h i. apart segments k j d d rising h i))
        (known start (omega (arith, ints, later)) below_end))
        (λ (sooner : start ≤ℤ from).
        subst IsSome (last_among None from segments k d within
        (λ j h. let order : (get_or segments j d).start ≤ℤ start = in_order segments j k d d rising h within in omega (arith, ints, order, sooner))
        (λ j h i. started.1.1 j d (omega (arith, a, h)) i))
        (known from (omega (arith, ints)) ordered))

  -- where no segment starts at or below a place, it isn't known from there on
  pub unknown_before : (from end : ℤ) (segments : List (Segment A)) → IsStarted from segments 0 → from <ℤ end →
      IsKnownThroughout (value_of_segments segments) from end → ⊥
  unknown_before from end segments started ordered known =
      let d : Segment A = record { start = from; value = None } in
      let none : value_of_segments segments from ≡ None = all_ahead None from segments d (λ k h. started.1.1 k d (omega arith) h) in
      none_known (value_of_segments segments from) (ap is_none none) (known from (omega (arith, ints)) ordered)
