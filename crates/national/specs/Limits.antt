-- The limits of the national values that may have no end (SUBSET-026, 7.5.1: the greatest number of each means that).
-- Distances are centimetres, times milliseconds.
use Rattle.std.specs.Prelude.{ℕ, ◌≤◌}

-- how long the trip stays overridden, in milliseconds: T_NVOVTRP is up to 254 seconds
abbrev pub IsOverrideDuration : ℕ → Type 0
IsOverrideDuration n = n ≤ 254_000

-- how far the train may run in Staff Responsible, in centimetres: D_NVSTFF is up to 2^15 - 2 units of at most ten
-- metres
abbrev pub IsStaffResponsibleDistance : ℕ → Type 0
IsStaffResponsibleDistance n = n ≤ 32_766_000
