-- A profile as segments of one value each (SUBSET-026, 3.11; 7.4.2, packets 21 and 27; how the segments are kept: this
-- project's profile). Places are centimetres.
use Rattle.std.specs.Prelude.{◌≢◌, ℕ, ◌+◌, count_by, is_some, ◌≤◌, length, ℤ, ◌≤ℤ◌, ◌<ℤ◌, Bool, false, not, int_lt, Option, None, Some, if◌then◌else◌, List, [], ◌∷◌}
use Rattle.std.specs.Int.{int_max}
use Rattle.std.specs.List.Sorted.{IsPartitionPoint}
use Rattle.track_store.specs.declared.segments.Segment.{Segment}
use Rattle.track_store.specs.Profiles.{Profile}

-- the value of the last segment that starts at or below a place; without one, another value
abbrev pub value_among : {A : Type 0} → Option A → List (Segment A) → ℤ → Option A
value_among otherwise [] place = otherwise
value_among otherwise (segment ∷ segments) place =
    value_among (if int_lt place segment.start then otherwise else segment.value) segments place

-- the value that segments give at a place; before the first start there is none
abbrev pub value_of_segments : {A : Type 0} → List (Segment A) → ℤ → Option A
value_of_segments segments = value_among None segments

-- segments, and for how many replacements there is space
pub record Segmented (A : Type 0) : Type 0 where
  pub segments : List (Segment A)
  pub space : ℕ

abbrev pub value_kept : {A : Type 0} → Segmented A → ℤ → Option A
value_kept kept = value_of_segments kept.segments

abbrev pub profile_kept : {A : Type 0} → Segmented A → Profile A
profile_kept kept = record { value = value_kept kept }

abbrev pub with_space : {A : Type 0} → ℕ → Segmented A → Segmented A
with_space space kept = record kept { space = space }

-- how many segments it keeps and replacements it has space for
abbrev pub size_of : {A : Type 0} → Segmented A → ℕ
size_of kept = length kept.segments + kept.space

-- segments that start after a place, each after the one before it
abbrev pub IsRisingFrom : {A : Type 0} → ℤ → List (Segment A) → Type 0
IsRisingFrom low [] = Unit {0}
IsRisingFrom low (segment ∷ segments) = (low <ℤ segment.start) × IsRisingFrom segment.start segments

-- each segment starts after the one before it
abbrev pub IsRising : {A : Type 0} → List (Segment A) → Type 0
IsRising [] = Unit {0}
IsRising (segment ∷ segments) = IsRisingFrom segment.start segments

-- the first segment lies wholly before a mark: the second one starts at or below it
abbrev pub is_first_passed : {A : Type 0} → ℤ → List (Segment A) → Bool
is_first_passed mark [] = false
is_first_passed mark (first ∷ []) = false
is_first_passed mark (first ∷ second ∷ segments) = not (int_lt mark second.start)

-- just so many segments start at or below a place, the first ones
abbrev pub IsStarted : {A : Type 0} → ℤ → List (Segment A) → ℕ → Type 0
IsStarted place segments count =
    (count ≤ length segments)
    × IsPartitionPoint (λ segment. segment.start ≤ℤ place) (λ segment. place <ℤ segment.start) segments count

-- just so many segments start below a place, the first ones
abbrev pub IsStartedBelow : {A : Type 0} → ℤ → List (Segment A) → ℕ → Type 0
IsStartedBelow place segments count =
    (count ≤ length segments)
    × IsPartitionPoint (λ segment. segment.start <ℤ place) (λ segment. place ≤ℤ segment.start) segments count

-- each segment has another value than what comes before it
abbrev pub AreApart : {A : Type 0} → Option A → List (Segment A) → Type 0
AreApart before [] = Unit {0}
AreApart before (segment ∷ segments) = (before ≢ segment.value) × AreApart segment.value segments

-- the segments rise, no two neighbours have one value, and the first has one
abbrev pub IsKept : {A : Type 0} → List (Segment A) → Type 0
IsKept segments = IsRising segments × AreApart None segments

-- .. or the first may have none
abbrev pub IsKeptAfterFirst : {A : Type 0} → List (Segment A) → Type 0
IsKeptAfterFirst [] = Unit {0}
IsKeptAfterFirst (segment ∷ segments) = IsRisingFrom segment.start segments × AreApart segment.value segments

-- the value after all starts; without one, another value
abbrev pub value_at_end : {A : Type 0} → Option A → List (Segment A) → Option A
value_at_end otherwise [] = otherwise
value_at_end otherwise (segment ∷ segments) = value_at_end segment.value segments

-- the first segment starts at a mark, if it would start before it
abbrev pub first_cut : {A : Type 0} → ℤ → List (Segment A) → List (Segment A)
first_cut mark [] = []
first_cut mark (segment ∷ segments) = record segment { start = int_max segment.start mark } ∷ segments

-- how many segments have a value; the others are gaps
abbrev pub count_of : {A : Type 0} → List (Segment A) → ℕ
count_of segments = count_by (λ segment. is_some segment.value) segments

-- the start of the first segment ahead of a place
abbrev pub next_among : {A : Type 0} → ℤ → List (Segment A) → Option ℤ
next_among place [] = None
next_among place (segment ∷ segments) =
    if int_lt place segment.start then Some segment.start else next_among place segments

-- a place lies at or beyond an end, if there is one
abbrev pub is_reached : ℤ → Option ℤ → Bool
is_reached place None = false
is_reached place (Some end) = not (int_lt place end)
