-- Where the train's front is, read off the movements and fixes of one life (this project's profile; its words are those
-- of SUBSET-026, 3.6.4). Lists have the newest first. Places, movements and paths are centimetres.
use Rattle.std.specs.Prelude.{ℕ, ◌+◌, ◌≤◌, ℤ, pos, ◌+ℤ◌, ◌-ℤ◌, Bool, false, ◌&&◌, if◌then◌else◌, nat_le, List, [], ◌∷◌}
use Rattle.std.specs.Int.{div_ceil}
use Rattle.std.specs.Int.RustNames.{unsigned_abs}
use Rattle.units.specs.Limits.{farthest}
use Rattle.units.specs.Stretches.{Span}
use Rattle.odometry.specs.Sums.{Sums, no_sums, moved_on, movement_between, path_between}
use Rattle.odometry.specs.declared.earlier.EarlierPlace.{EarlierPlace}
use Rattle.odometry.specs.declared.fix.Fix.{Fix}

-- what bears on the place: a movement of the odometer, forward or backward, or a fix, which is the place of a balise
-- group
pub data PlaceEntry : Type 0 where
  Moved : ℤ → PlaceEntry
  Fixed : Fix → PlaceEntry

-- a life starts with an exact fix at 0
abbrev pub first_fix : Fix
first_fix = record { at = pos 0; accuracy = 0; sums = no_sums; missed = false }

abbrev pub last_fix : List PlaceEntry → Fix
last_fix [] = first_fix
last_fix (Moved by ∷ entries) = last_fix entries
last_fix (Fixed fix ∷ entries) = fix

-- the sums of the life
abbrev pub sums_of : List PlaceEntry → Sums
sums_of [] = no_sums
sums_of (Moved by ∷ entries) = moved_on (sums_of entries) by
sums_of (Fixed fix ∷ entries) = sums_of entries

-- what is known of the place: the last fix, and the sums now
pub record KnownPlace : Type 0 where
  pub fix : Fix
  pub sums : Sums

abbrev pub known : List PlaceEntry → KnownPlace
known entries = record { fix = last_fix entries; sums = sums_of entries }

-- ---- by a fix: where the front was at a moment of the life, and how far that may be wrong

-- the place of the fix, and the movement between the reading of its balise and that moment
abbrev pub estimate_at : Fix → Sums → ℤ
estimate_at fix moment = fix.at +ℤ movement_between fix.sums moment

-- the accuracy, five metres, the twentieth part of the path in between rounded up, and twelve metres for a missed
-- balise 1
abbrev pub uncertainty_at : Fix → Sums → ℕ
uncertainty_at fix moment =
    fix.accuracy + 500 + div_ceil (path_between fix.sums moment) 20 + (if fix.missed then 1200 else 0)

abbrev pub place_at : Fix → Sums → EarlierPlace
place_at fix moment = record { estimate = estimate_at fix moment; uncertainty = pos (uncertainty_at fix moment) }

-- ---- now

abbrev pub estimate : KnownPlace → ℤ
estimate place = estimate_at place.fix place.sums

abbrev pub uncertainty : KnownPlace → ℕ
uncertainty place = uncertainty_at place.fix place.sums

-- the minimum and the maximum safe front
abbrev pub min_front : KnownPlace → ℤ
min_front place = estimate place -ℤ pos (uncertainty place)

abbrev pub max_front : KnownPlace → ℤ
max_front place = estimate place +ℤ pos (uncertainty place)

-- the minimum safe rear of a train of this length
abbrev pub min_rear : KnownPlace → ℕ → ℤ
min_rear place length = min_front place -ℤ pos length

-- the track that a train of this length may cover
abbrev pub stretch_about : ℤ → ℕ → ℕ → Span
stretch_about estimate uncertainty length =
    let min_front = estimate -ℤ pos uncertainty in
    record { rear = min_front -ℤ pos length; min_front = min_front; max_front = estimate +ℤ pos uncertainty }

abbrev pub stretch : KnownPlace → ℕ → Span
stretch place length = stretch_about (estimate place) (uncertainty place) length

-- ---- what lies too far

abbrev pub is_near : ℤ → Bool
is_near place = nat_le (unsigned_abs place) farthest

-- a movement stays in range where it takes neither the path of the life nor the estimate too far
abbrev pub stays_in_range : KnownPlace → ℤ → Bool
stays_in_range place by = nat_le (place.sums.path + unsigned_abs by) farthest && is_near (estimate_at place.fix (moved_on place.sums by))

-- a movement out of range is not added
abbrev pub after_movement : List PlaceEntry → ℤ → List PlaceEntry
after_movement entries by = if stays_in_range (known entries) by then Moved by ∷ entries else entries

-- a fix is made where neither its place nor the estimate that it gives now lies too far
abbrev pub is_made : Sums → Fix → Bool
is_made now fix = is_near fix.at && is_near (estimate_at fix now)

abbrev pub after_fix : List PlaceEntry → Fix → List PlaceEntry
after_fix entries fix = if is_made (sums_of entries) fix then Fixed fix ∷ entries else entries

-- what is true of every place that is known
pub record IsWithinLimits (place : KnownPlace) : Type 0 where
  pub fix_within : unsigned_abs place.fix.at ≤ farthest
  pub estimate_within : unsigned_abs (estimate place) ≤ farthest
