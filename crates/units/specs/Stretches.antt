-- Stretches of track, by places in centimetres (this project's profile).
use Rattle.std.specs.Prelude.{ℕ, zero, suc, ℤ, pos, negsuc, ◌+ℤ◌, ◌-ℤ◌, ◌≤ℤ◌, List, [], ◌∷◌, ◌++◌, min}

-- the track that a train may cover: its minimum safe rear, its minimum safe front, its maximum safe front
pub record Span : Type 0 where
  pub rear : ℤ
  pub min_front : ℤ
  pub max_front : ℤ

abbrev pub IsOrdered : ℤ → ℤ → ℤ → Type 0
IsOrdered rear min_front max_front = (rear ≤ℤ min_front) × (min_front ≤ℤ max_front)

-- a number of centimetres, none where it would be below 0
abbrev pub natural : ℤ → ℕ
natural (pos n) = n
natural (negsuc n) = 0

-- how many centimetres there are from one to another, both included
abbrev pub count_between : ℤ → ℤ → ℕ
count_between from to = natural ((to +ℤ pos 1) -ℤ from)

-- what f gives at so many centimetres, one after another. It doesn't unfold by itself: a stretch has thousands
unfoldable pub gathered : {A : Type 0} → (ℤ → List A) → ℤ → ℕ → List A
gathered f from zero = []
gathered f from (suc n) = f from ++ gathered f (from +ℤ pos 1) n

-- what f gives at each centimetre from one to another, both included
abbrev pub over : {A : Type 0} → (ℤ → List A) → ℤ → ℤ → List A
over f from to = gathered f from (count_between from to)

-- the least of some speeds and of the one given first
abbrev pub least : ℕ → List ℕ → ℕ
least otherwise [] = otherwise
least otherwise (speed ∷ speeds) = min speed (least otherwise speeds)
