-- The sums of a life at one moment, and what lies between two moments (this project's profile). Movements and paths are
-- centimetres.
use Rattle.std.specs.Prelude.{ℕ, ◌+◌, ◌≤◌, ℤ, pos, ◌+ℤ◌, ◌-ℤ◌}
use Rattle.std.specs.Int.{abs_diff}
use Rattle.std.specs.Int.RustNames.{unsigned_abs}
use Rattle.units.specs.Limits.{farthest}

-- the sum of the movements, and the path: the sum of the absolute movements
pub record Sums : Type 0 where
  pub moved : ℤ
  pub path : ℕ

-- at the start of a life
abbrev pub no_sums : Sums
no_sums = record { moved = pos 0; path = 0 }

-- after one movement more
abbrev pub moved_on : Sums → ℤ → Sums
moved_on sums by = record { moved = sums.moved +ℤ by; path = sums.path + unsigned_abs by }

-- the movement from one moment to another
abbrev pub movement_between : Sums → Sums → ℤ
movement_between from to = to.moved -ℤ from.moved

-- the path between two moments, whichever came first
abbrev pub path_between : Sums → Sums → ℕ
path_between one other = abs_diff one.path other.path

-- what is true of all sums
abbrev pub AreSums : Sums → Type 0
AreSums sums = (unsigned_abs sums.moved ≤ sums.path) × (sums.path ≤ farthest)
