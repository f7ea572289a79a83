-- Sums over lists (this project's profile).
use Rattle.std.specs.Prelude.{ℕ, ◌+◌, List, [], ◌∷◌}

-- the sum of what w says of each element
abbrev pub total : {D : Type 0} → (D → ℕ) → List D → ℕ
total w [] = 0
total w (x ∷ xs) = w x + total w xs
