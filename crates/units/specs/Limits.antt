-- The limits of the quantities (this project's profile). Places, lengths and movements are centimetres, speeds metres
-- per hour, times milliseconds, gradients per mille.
use Rattle.std.specs.Prelude.{ℕ, ◌+◌, ◌*◌, ◌<◌, ◌≤◌, ◌^◌, ℤ, pos, neg_ℤ, ◌≤ℤ◌}
use Rattle.std.specs.Int.RustNames.{unsigned_abs}

-- ---- along the track, in centimetres

-- the longest path and the farthest place of a life, and the longest length
abbrev pub farthest : ℕ
farthest = 2 ^ 40

abbrev pub IsLength : ℕ → Type 0
IsLength n = n ≤ farthest

-- where a balise group lies: so far away is the place of a fix, and so far each sum of movements, from one of which to
-- the other the train moved between the fix and the group
abbrev pub IsGroupPlace : ℤ → Type 0
IsGroupPlace z = unsigned_abs z ≤ 3 * farthest

-- how far a distance of a packet reaches: 2^15 - 1 units of at most ten metres
abbrev pub reach : ℕ
reach = 32_767_000

abbrev pub IsReach : ℕ → Type 0
IsReach n = n ≤ reach

-- the greatest place, forward and backward: beyond a group 33 distances of a packet, one after another, still lead to a
-- place
abbrev pub outermost : ℕ
outermost = 2 ^ 42

-- a distance or a place
abbrev pub IsCm : ℤ → Type 0
IsCm z = (neg_ℤ (pos outermost) ≤ℤ z) × (z ≤ℤ pos outermost)

-- a place from which each distance of a packet leads to a place, forward or backward
abbrev pub HasReach : ℤ → Type 0
HasReach z = unsigned_abs z + reach ≤ outermost

-- the longest movement of one reading of the odometer
abbrev pub longest_movement : ℕ
longest_movement = 10_000

abbrev pub IsMovement : ℤ → Type 0
IsMovement z = (neg_ℤ (pos longest_movement) ≤ℤ z) × (z ≤ℤ pos longest_movement)

-- ---- other quantities

-- the greatest speed in metres per hour: 120 steps of 5 km/h
abbrev pub fastest : ℕ
fastest = 600_000

abbrev pub IsMph : ℕ → Type 0
IsMph n = n ≤ fastest

-- the milliseconds of the longest life, some 34 years: each moment lies before its end
abbrev pub longest_life : ℕ
longest_life = 2 ^ 40

-- a moment or a span
abbrev pub IsMs : ℕ → Type 0
IsMs n = n < longest_life

-- the steepest gradient in per mille: 255 ends a profile
abbrev pub steepest : ℕ
steepest = 254

abbrev pub IsPermille : ℤ → Type 0
IsPermille z = (neg_ℤ (pos steepest) ≤ℤ z) × (z ≤ℤ pos steepest)
