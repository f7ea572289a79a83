-- Sectors that were handed in one after the other (this project's profile). Sectors are numbered from 0.
use Rattle.std.specs.Prelude.{◌≡◌, ℕ, ◌+◌, ◌<◌, ◌==◌, Bool, List, length, reverse}
use Rattle.std.specs.List.{IsDistinct, list_any, prefix_len}

-- whether sector s is one of these
abbrev pub is_one_of : List ℕ → ℕ → Bool
is_one_of these s = list_any (λ t. s == t) these

-- How many of these were handed in last: so many came one after the other, and since then no other one.
abbrev pub handed_last : List ℕ → List ℕ → ℕ
handed_last these known = prefix_len (is_one_of these) (reverse known)

-- no sector is held twice
abbrev pub IsOnce : List ℕ → Type 0
IsOnce known = IsDistinct (λ s t. s == t) known

-- not all of these were handed in last, and now it is one more
pub record IsOneMore (these old new : List ℕ) : Type 0 where
  pub left : handed_last these old < length these
  pub more : handed_last these new ≡ handed_last these old + 1
