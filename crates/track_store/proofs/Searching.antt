-- What a search over segments that rise finds.
use Rattle.std.proofs.Common.{◌≡◌, ℕ, zero, suc, ◌+◌, ◌<◌, ◌≤◌, ℤ, ◌≤ℤ◌, ◌<ℤ◌, List, [], ◌∷◌, length, take, get_or, true, false, refl, ap, arith}
use Rattle.std.specs.Prelude.{Option, None, Some, int_lt, not, filter}
use Rattle.std.specs.List.Sorted.{IsPartitionedBy}
use Rattle.std.proofs.lemmas.Int.{ints}
use Rattle.track_store.specs.declared.segments.Segment.{Segment}
use Rattle.track_store.specs.Segments.{value_among, value_of_segments, IsRisingFrom, IsRising, IsStartedBelow, next_among}
use Rattle.track_store.proofs.Segmenting.{below, not_below}

module _ {A : Type 0} where
  beyond_low : (low : ℤ) (segments : List (Segment A)) (j : ℕ) (d : Segment A) → IsRisingFrom low segments → j < length segments →
      low <ℤ (get_or segments j d).start
  beyond_low low [] j d r h = absurd (omega arith)
  beyond_low low (s ∷ segments) zero d r h = r.0
  beyond_low low (s ∷ segments) (suc j) d r h =
      let later : s.start <ℤ (get_or segments j d).start = beyond_low s.start segments j d r.1 (omega arith) in
      omega (arith, ints, later, r.0)

  rising_from : (low : ℤ) (segments : List (Segment A)) → IsRisingFrom low segments → IsRising segments
  rising_from low [] r = tt
  rising_from low (s ∷ segments) r = r.1

  -- no later one starts before an earlier one
  pub in_order : (segments : List (Segment A)) (i j : ℕ) (d e : Segment A) → IsRising segments → i ≤ j → j < length segments →
      (get_or segments i d).start ≤ℤ (get_or segments j e).start
  in_order [] i j d e r a h = absurd (omega arith)
  in_order (s ∷ segments) zero zero d e r a h = omega (arith, ints)
  in_order (s ∷ segments) zero (suc j) d e r a h =
      let later : s.start <ℤ (get_or segments j e).start = beyond_low s.start segments j e r (omega arith) in
      omega (arith, ints, later)
  in_order (s ∷ segments) (suc i) zero d e r a h = absurd (omega arith)
  in_order (s ∷ segments) (suc i) (suc j) d e r a h =
      in_order segments i j d e (rising_from s.start segments r) (omega arith) (omega arith)

  pub parted : (place : ℤ) (segments : List (Segment A)) → IsRising segments →
      IsPartitionedBy (λ (s : Segment A). not (int_lt place s.start)) segments
  parted place segments r i j d a h later =
      let order = in_order segments i j d d r a h in
      grind (arith, ints)

  pub parted_below : (place : ℤ) (segments : List (Segment A)) → IsRising segments →
      IsPartitionedBy (λ (s : Segment A). int_lt s.start place) segments
  parted_below place segments r i j d a h later =
      let order = in_order segments i j d d r a h in
      grind (arith, ints)

  -- those that start below a place are the first ones
  none_below : (place : ℤ) (segments : List (Segment A)) →
      ((k : ℕ) (d : Segment A) → k < length segments → int_lt (get_or segments k d).start place ≡ false) →
      filter (λ (s : Segment A). int_lt s.start place) segments ≡ []
  none_below place [] beyond = refl
  none_below place (s ∷ segments) beyond =
      let here : int_lt s.start place ≡ false = beyond 0 s (omega arith) in
      rw here (none_below place segments (λ k d a. beyond (suc k) d (omega arith)))

  pub below_front : (place : ℤ) (segments : List (Segment A)) (count : ℕ) → count ≤ length segments →
      ((k : ℕ) (d : Segment A) → k < count → int_lt (get_or segments k d).start place ≡ true) →
      ((k : ℕ) (d : Segment A) → count ≤ k → k < length segments → int_lt (get_or segments k d).start place ≡ false) →
      filter (λ (s : Segment A). int_lt s.start place) segments ≡ take count segments
  below_front place [] zero within front beyond = refl
  below_front place [] (suc n) within front beyond = absurd (omega arith)
  below_front place (s ∷ segments) zero within front beyond =
      none_below place (s ∷ segments) (λ k d a. beyond k d (omega arith) a)
  below_front place (s ∷ segments) (suc n) within front beyond =
      let here : int_lt s.start place ≡ true = front 0 s (omega arith) in
      rw here (ap (λ (rest : List (Segment A)). s ∷ rest)
      (below_front place segments n (omega arith) (λ k d a. front (suc k) d (omega arith)) (λ k d a h. beyond (suc k) d (omega arith) (omega arith))))

  -- segments ahead of a place don't count there
  pub all_ahead : (otherwise : Option A) (place : ℤ) (segments : List (Segment A)) (d : Segment A) →
      ((k : ℕ) → k < length segments → place <ℤ (get_or segments k d).start) → value_among otherwise segments place ≡ otherwise
  all_ahead otherwise place [] d h = refl
  all_ahead otherwise place (s ∷ segments) d h =
      let here : int_lt place s.start ≡ true = below place s.start (h 0 (omega arith)) in
      rw here (all_ahead otherwise place segments d (λ k a. h (suc k) (omega arith)))

  pub last_among : (otherwise : Option A) (place : ℤ) (segments : List (Segment A)) (i : ℕ) (d : Segment A) → i < length segments →
      ((k : ℕ) → k ≤ i → (get_or segments k d).start ≤ℤ place) →
      ((k : ℕ) → i < k → k < length segments → place <ℤ (get_or segments k d).start) →
      value_among otherwise segments place ≡ (get_or segments i d).value
  last_among otherwise place [] i d h beyond ahead = absurd (omega arith)
  last_among otherwise place (s ∷ segments) zero d h beyond ahead =
      let here : int_lt place s.start ≡ false = not_below place s.start (beyond 0 (omega arith)) in
      rw here (all_ahead s.value place segments d (λ k a. ahead (suc k) (omega arith) (omega arith)))
  last_among otherwise place (s ∷ segments) (suc i) d h beyond ahead =
      let here : int_lt place s.start ≡ false = not_below place s.start (beyond 0 (omega arith)) in
      rw here (last_among s.value place segments i d (omega arith) (λ k a. beyond (suc k) (omega arith)) (λ k a b. ahead (suc k) (omega arith) (omega arith)))

  pub first_among : (place : ℤ) (segments : List (Segment A)) (i : ℕ) (d : Segment A) → i < length segments →
      ((k : ℕ) → k < i → (get_or segments k d).start ≤ℤ place) → place <ℤ (get_or segments i d).start →
      next_among place segments ≡ Some (get_or segments i d).start
  first_among place [] i d h beyond here = absurd (omega arith)
  first_among place (s ∷ segments) zero d h beyond here = rw (below place s.start here)
  first_among place (s ∷ segments) (suc i) d h beyond here =
      let first : int_lt place s.start ≡ false = not_below place s.start (beyond 0 (omega arith)) in
      rw first (first_among place segments i d (omega arith) (λ k a. beyond (suc k) (omega arith)) here)

  pub none_among : (place : ℤ) (segments : List (Segment A)) (d : Segment A) →
      ((k : ℕ) → k < length segments → (get_or segments k d).start ≤ℤ place) → next_among place segments ≡ None
  none_among place [] d h = refl
  none_among place (s ∷ segments) d h =
      let first : int_lt place s.start ≡ false = not_below place s.start (h 0 (omega arith)) in
      rw first (none_among place segments d (λ k a. h (suc k) (omega arith)))

  -- from the start of the last segment below a place on, its value holds up to there
  pub last_below : (place there : ℤ) (segments : List (Segment A)) (i : ℕ) (d : Segment A) → IsRising segments → i < length segments →
      IsStartedBelow place segments (i + 1) → (get_or segments i d).start ≤ℤ there → there <ℤ place →
      value_of_segments segments there ≡ (get_or segments i d).value
  last_below place there segments i d r within started from to =
      last_among None there segments i d within
      (λ k a. omega (arith, ints, from, in_order segments k i d d r a within))
      (λ k a h. omega (arith, ints, to, started.1.1 k d (omega (arith, a)) h))

  -- and where none starts below it, there is none up to there
  pub none_before : (place there : ℤ) (segments : List (Segment A)) → IsStartedBelow place segments 0 → there <ℤ place →
      value_of_segments segments there ≡ None
  none_before place there segments started to =
      let d : Segment A = record { start = place; value = None } in
      all_ahead None there segments d (λ k h. omega (arith, ints, to, started.1.1 k d (omega arith) h))

  -- and a later one starts after an earlier one
  pub apart : (segments : List (Segment A)) (i j : ℕ) (d e : Segment A) → IsRising segments → i < j → j < length segments →
      (get_or segments i d).start <ℤ (get_or segments j e).start
  apart [] i j d e r a h = absurd (omega arith)
  apart (s ∷ segments) zero zero d e r a h = absurd (omega arith)
  apart (s ∷ segments) zero (suc j) d e r a h = beyond_low s.start segments j e r (omega arith)
  apart (s ∷ segments) (suc i) zero d e r a h = absurd (omega arith)
  apart (s ∷ segments) (suc i) (suc j) d e r a h =
      apart segments i j d e (rising_from s.start segments r) (omega arith) (omega arith)
