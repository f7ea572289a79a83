-- Numbers (this project's profile).
use Rattle.std.specs.Prelude.{ℕ, ℤ, pos, negsuc}

-- a number, 0 where it is below 0
abbrev pub natural : ℤ → ℕ
natural (pos n) = n
natural (negsuc n) = 0
