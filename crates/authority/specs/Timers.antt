-- Times in seconds, and moments in milliseconds at which they have run out (this project's profile).
use Rattle.std.specs.Prelude.{ℕ, ◌+◌, ◌*◌, ◌==◌, ◌&&◌, nat_le, Bool, false, not, Option, Some, None}

-- the number of a time that never runs out
abbrev pub never : ℕ
never = 1023

-- a time that started then has run out where it is over by now
abbrev pub has_run_out : ℕ → ℕ → ℕ → Bool
has_run_out time start now = not (time == never) && nat_le (start + 1000 * time) now

-- a time that may not have started
abbrev pub started_has_run_out : ℕ → Option ℕ → ℕ → Bool
started_has_run_out time None now = false
started_has_run_out time (Some start) now = has_run_out time start now
