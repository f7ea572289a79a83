-- The limits of what is known of a train's brakes (this project's profile). Decelerations are cm/s^2, reaction times
-- milliseconds.
use Rattle.std.specs.Prelude.{ℕ, ◌≤◌}

-- a deceleration in cm/s^2
abbrev pub IsDeceleration : ℕ → Type 0
IsDeceleration n = (1 ≤ n) × (n ≤ 300)

-- the time until the brakes act, in milliseconds
abbrev pub IsReaction : ℕ → Type 0
IsReaction n = n ≤ 10_000
