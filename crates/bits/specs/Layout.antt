-- What bits may hold, field after field: a grammar as data, and what it says of bits (this project's profile).
use Rattle.std.specs.Prelude.{◌≡◌, ◌≢◌, ◌==◌, ◌+◌, ◌-◌, ◌⊎◌, ◌<◌, ◌≤◌, ℕ, zero, suc, Bool, true, false, List, [], ◌∷◌, ◌++◌, length, take, drop, Option, Some, None, Result, Ok, Err, nat_lt, if◌then◌else◌}
use Rattle.bits.specs.Bits.{number}
use Rattle.bits.specs.declared.name.VariableName.{VariableName}

-- The values of a variable as numbers of so many bits. A number without a value says why.
pub record Codes (E A : Type 0) : Type 0 where
  pub width : ℕ
  pub value : ℕ → Result A E
  pub number : A → ℕ

-- A layout says how an A is spelled in bits: as nothing; as nothing, unless a fault is there; as a variable, with its
-- name, the fault of too few bits and the faults of its own; as a run of bits; as one of two layouts; as one kind of an
-- A; as a part that is there where it is given; as a part that is always there; with a number that must say how many
-- bits there are, those before them included; as so many more elements of a list; with its faults in other words; as
-- one layout and then another that goes by its value. Each field also says where in the C that is spelled its value is
-- found.
pub data Layout : Type 0 → Type 0 → Type 0 → Type 1 where
  done : {F C A : Type 0} → A → Layout F C A
  unless : {F C : Type 0} → Bool → F → Layout F C (Unit {0})
  field : {F E C A : Type 0} → VariableName → F → (E → F) → Codes E A → (C → A) → Layout F C A
  run : {F C : Type 0} → ℕ → F → (C → List Bool) → Layout F C (List Bool)
  choice : {F C A : Type 0} → Bool → Layout F C A → Layout F C A → Layout F C A
  kind : {F C D B A : Type 0} → (B → A) → (C → Option D) → Layout F D B → Layout F C A
  part : {F C D : Type 0} → Bool → Layout F D D → (C → Option D) → Layout F C (Option D)
  inner : {F C D : Type 0} → Layout F D D → (C → D) → Layout F C D
  measured : {F C A : Type 0} → F → ℕ → Layout F C (ℕ × A) → Layout F C A
  more : {F C D : Type 0} → ℕ → Layout F D D → List D → (C → List D) → Layout F C (List D)
  reported_as : {F G C A : Type 0} → (G → F) → Layout G C A → Layout F C A
  then_ : {F C A B : Type 0} → Layout F C A → (A → Layout F C B) → Layout F C B

infixl 10 ◌>>=◌
abbrev pub ◌>>=◌ : {F C A B : Type 0} → Layout F C A → (A → Layout F C B) → Layout F C B
m >>= f = then_ m f

-- so many values, each as P says, one after another
abbrev pub InTurn : {D : Type 0} → (D → List Bool → Type 0) → ℕ → List D → List Bool → Type 0
InTurn P zero [] bits = bits ≡ []
InTurn P zero (x ∷ xs) bits = ⊥
InTurn P (suc n) [] bits = ⊥
InTurn P (suc n) (x ∷ xs) bits = (front rest : List Bool) × (bits ≡ front ++ rest) × P x front × InTurn P n xs rest

-- of so many values the first that isn't as P says has a fault, as Q says
abbrev pub InTurnTo : {D : Type 0} → (D → List Bool → Type 0) → (List Bool → Type 0) → ℕ → List Bool → Type 0
InTurnTo P Q zero bits = ⊥
InTurnTo {D = D} P Q (suc n) bits = Q bits ⊎ ((x : D) × (front rest : List Bool) × (bits ≡ front ++ rest) × P x front × InTurnTo P Q n rest)

-- The bits spell the value.
abbrev pub Spells : {F C A : Type 0} → Layout F C A → A → List Bool → Type 0
Spells (done y) x bits = (x ≡ y) × (bits ≡ [])
Spells (unless bad f) x bits = (bad ≡ false) × (bits ≡ [])
Spells (field name f g codes get) x bits = (length bits ≡ codes.width) × (codes.value (number bits) ≡ Ok x)
Spells (run n f get) x bits = (length bits ≡ n) × (bits ≡ x)
Spells (choice true m n) x bits = Spells m x bits
Spells (choice false m n) x bits = Spells n x bits
Spells (kind make get m) x bits = (y : _) × (x ≡ make y) × Spells m y bits
Spells (part true m get) x bits = (y : _) × (x ≡ Some y) × Spells m y bits
Spells (part false m get) x bits = (x ≡ None) × (bits ≡ [])
Spells (inner m get) x bits = Spells m x bits
Spells (measured f before m) x bits = (reported : ℕ) × Spells m (reported, x) bits × (reported ≡ before + length bits)
Spells (more n m before get) xs bits = (new : List _) × (xs ≡ before ++ new) × InTurn (λ x part. Spells m x part) n new bits
Spells (reported_as g m) x bits = Spells m x bits
Spells (then_ m f) y bits = (x : _) × (front rest : List Bool) × (bits ≡ front ++ rest) × Spells m x front × Spells (f x) y rest

-- A front of the bits spells the value, and the rest follows it.
pub record Begins {F C A : Type 0} (m : Layout F C A) (x : A) (bits rest : List Bool) : Type 0 where
  pub front : List Bool
  pub parts : bits ≡ front ++ rest
  pub spelled : Spells m x front

-- No front of the bits spells a value, and this is the first fault in the order of the bits.
abbrev pub Refuses : {F C A : Type 0} → Layout F C A → F → List Bool → Type 0
Refuses (done y) e bits = ⊥
Refuses (unless bad f) e bits = (bad ≡ true) × (e ≡ f)
Refuses (field name f g codes get) e bits =
    ((length bits < codes.width) × (e ≡ f)) ⊎ ((d : _) × (codes.width ≤ length bits) × (codes.value (number (take codes.width bits)) ≡ Err d) × (e ≡ g d))
Refuses (run n f get) e bits = (length bits < n) × (e ≡ f)
Refuses (choice true m n) e bits = Refuses m e bits
Refuses (choice false m n) e bits = Refuses n e bits
Refuses (kind make get m) e bits = Refuses m e bits
Refuses (part true m get) e bits = Refuses m e bits
Refuses (part false m get) e bits = ⊥
Refuses (inner m get) e bits = Refuses m e bits
Refuses (measured f before m) e bits =
    Refuses m e bits ⊎ ((reported : ℕ) × (x : _) × (front rest : List Bool) × (bits ≡ front ++ rest) × Spells m (reported, x) front × (reported ≢ before + length front) × (e ≡ f))
Refuses (more n m before get) e bits = InTurnTo (λ x part. Spells m x part) (λ left. Refuses m e left) n bits
Refuses (reported_as g m) e bits = (d : _) × Refuses m d bits × (e ≡ g d)
Refuses (then_ m f) e bits = Refuses m e bits ⊎ ((x : _) × (front rest : List Bool) × (bits ≡ front ++ rest) × Spells m x front × Refuses (f x) e rest)

-- ---- reading, which the functions that read are stated by

abbrev pub after : {F A B : Type 0} → Result (A × List Bool) F → (A → List Bool → Result (B × List Bool) F) → Result (B × List Bool) F
after (Ok x) f = f x.0 x.1
after (Err e) f = Err e

abbrev pub map_fault : {G F X : Type 0} → (G → F) → Result X G → Result X F
map_fault g (Ok x) = Ok x
map_fault g (Err e) = Err (g e)

-- a value with the bits after it
abbrev pub alongside : {F A : Type 0} → Result A F → List Bool → Result (A × List Bool) F
alongside (Ok x) rest = Ok (x, rest)
alongside (Err e) rest = Err e

-- a variable at the front of the bits
unfoldable pub read_field : {F E A : Type 0} → F → (E → F) → Codes E A → List Bool → Result (A × List Bool) F
read_field f g codes bits = if nat_lt (length bits) codes.width then Err f else map_fault g (alongside (codes.value (number (take codes.width bits))) (drop codes.width bits))

-- so many bits at the front
unfoldable pub read_run : {F : Type 0} → ℕ → F → List Bool → Result (List Bool × List Bool) F
read_run n f bits = if nat_lt (length bits) n then Err f else Ok (take n bits, drop n bits)

-- the value, where the number next to it is that of the bits that were taken and those before them
abbrev pub checked : {F A : Type 0} → F → ℕ → List Bool → (ℕ × A) → List Bool → Result (A × List Bool) F
checked f before bits p rest = if p.0 == before + (length bits - length rest) then Ok (p.1, rest) else Err f

-- so many more elements at the front, after those before
unfoldable pub read_more : {F D : Type 0} → (List Bool → Result (D × List Bool) F) → ℕ → List D → List Bool → Result (List D × List Bool) F
read_more r zero before bits = Ok (before, bits)
read_more r (suc n) before bits = after (r bits) (λ x rest. read_more r n (before ++ x ∷ []) rest)

-- The value at the front of the bits and the bits after it, or the first fault.
abbrev pub read : {F C A : Type 0} → Layout F C A → List Bool → Result (A × List Bool) F
read (done x) bits = Ok (x, bits)
read (unless bad f) bits = if bad then Err f else Ok (tt, bits)
read (field name f g codes get) bits = read_field f g codes bits
read (run n f get) bits = read_run n f bits
read (choice b m n) bits = if b then read m bits else read n bits
read (kind make get m) bits = after (read m bits) (λ y rest. Ok (make y, rest))
read (part given m get) bits = if given then after (read m bits) (λ y rest. Ok (Some y, rest)) else Ok (None, bits)
read (inner m get) bits = read m bits
read (measured f before m) bits = after (read m bits) (λ p rest. checked f before bits p rest)
read (more n m before get) bits = read_more (read m) n before bits
read (reported_as g m) bits = map_fault g (read m bits)
read (then_ m f) bits = after (read m bits) (λ x rest. read (f x) rest)

-- What a function that reads returned, seen by view, and the bits left are what reading gives.
abbrev pub Gives : {F X Y : Type 0} → (X → Y) → Result X F → List Bool → Result (Y × List Bool) F → Type 0
Gives view (Ok x) left reading = reading ≡ Ok (view x, left)
Gives view (Err e) left reading = reading ≡ Err e

-- so many steps, each from what the one before it came to
unfoldable pub folded : {F C S : Type 0} → (S → Layout F C S) → ℕ → S → Layout F C S
folded m zero s = done s
folded m (suc n) s = m s >>= folded m n
