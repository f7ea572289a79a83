-- The limits of what a scenario asks for (this project's profile). Distances are centimetres.
use Rattle.std.specs.Prelude.{ℕ, ℤ, pos, neg_ℤ, ◌≤ℤ◌}

-- how far a drive goes backward and forward
abbrev pub farthest_back : ℤ
farthest_back = neg_ℤ (pos 10_000)

abbrev pub farthest : ℕ
farthest = 1_000_000

abbrev pub IsDistance : ℤ → Type 0
IsDistance z = (farthest_back ≤ℤ z) × (z ≤ℤ pos farthest)
