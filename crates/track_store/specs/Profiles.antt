-- A value at each centimetre of the track, which changes now and then (SUBSET-026, 3.11; 7.4.2, packets 21 and 27).
-- Places are centimetres.
use Rattle.std.specs.Prelude.{◌≡◌, ℕ, min, ℤ, pos, neg_ℤ, ◌≤ℤ◌, ◌<ℤ◌, Bool, true, false, Option, None, Some, IsSome, List, [], ◌∷◌}
use Rattle.units.specs.Limits.{outermost}
use Rattle.units.specs.Stretches.{over}

-- what a profile gives at each centimetre
pub record Profile (A : Type 0) : Type 0 where
  pub value : ℤ → Option A

-- that of a store, whose values are read so
abbrev pub profile_with : {S A : Type 0} → (S → ℤ → Option A) → S → Profile A
profile_with value store = record { value = value store }

-- the value of a place stays the same up to a place ahead, that one not included; where there is none, for ever
abbrev pub Lasts : {A : Type 0} → (ℤ → Option A) → ℤ → Option ℤ → Type 0
Lasts value place None = (later : ℤ) → place ≤ℤ later → value later ≡ value place
Lasts value place (Some next) =
    (place <ℤ next) × ((later : ℤ) → place ≤ℤ later → later <ℤ next → value later ≡ value place)

-- one value holds at each centimetre from a place up to another one, that one not included
abbrev pub HoldsOver : {A : Type 0} → (ℤ → Option A) → Option A → ℤ → ℤ → Type 0
HoldsOver value held from to = (place : ℤ) → from ≤ℤ place → place <ℤ to → value place ≡ held

-- a value as a list of none or one
abbrev pub listed : {A : Type 0} → Option A → List A
listed None = []
listed (Some value) = value ∷ []

-- the lesser of a speed and of a value, if there is one
abbrev pub lesser : ℕ → Option ℕ → ℕ
lesser limit None = limit
lesser limit (Some value) = min value limit

abbrev pub is_any : {A : Type 0} → List A → Bool
is_any [] = false
is_any (value ∷ values) = true

-- a value is known at a centimetre from one to another, both included
abbrev pub is_known_over : {A : Type 0} → (ℤ → Option A) → ℤ → ℤ → Bool
is_known_over value from to = is_any (over (λ place. listed (value place)) from to)

-- a value is known at each centimetre from one up to another, that one not included
abbrev pub IsKnownThroughout : {A : Type 0} → (ℤ → Option A) → ℤ → ℤ → Type 0
IsKnownThroughout value from end = (place : ℤ) → from ≤ℤ place → place <ℤ end → IsSome (value place)

-- .. at any centimetre that there is
abbrev pub is_known : {A : Type 0} → (ℤ → Option A) → Bool
is_known value = is_known_over value (neg_ℤ (pos outermost)) (pos outermost)
