-- Which balises a train passes, and in which order (this project's profile). Places are centimetres.
use Rattle.std.specs.Prelude.{ℕ, zero, suc, ◌≤◌, ◌<◌, ℤ, pos, ◌+ℤ◌, ◌≤ℤ◌, ◌<ℤ◌, List, [], ◌++◌, length, Bool, slice_index_or}
use Rattle.std.specs.List.{filter}
use Rattle.std.specs.Ordering.{int_eq}
use Rattle.simulator.specs.declared.balise.Balise.{Balise}

abbrev pub lies_at : ℤ → Balise → Bool
lies_at place b = int_eq (pos b.at) place

-- Those on so many centimetres ahead of a place: centimetre after centimetre, and at each those that lie there, in the
-- order of the file.
unfoldable pub passed : List Balise → ℤ → ℕ → List Balise
passed bs from zero = []
passed bs from (suc n) = passed bs from n ++ filter (lies_at (from +ℤ pos (suc n))) bs

-- The first i of them, and no other, lie at or before a place.
pub record AreUpTo (bs : List Balise) (place : ℤ) (i : ℕ) : Type 0 where
  pub inside : i ≤ length bs
  pub before : (k : ℕ) (d : Balise) → k < i → pos (slice_index_or bs k d).at ≤ℤ place
  pub following : (k : ℕ) (d : Balise) → i ≤ k → k < length bs → place <ℤ pos (slice_index_or bs k d).at
