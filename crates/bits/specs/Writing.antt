-- What follows from a layout for a value that is written or printed: its fields, their bits and how many these are
-- (this project's profile).
use Rattle.std.specs.Prelude.{ℕ, ◌+◌, List, [], ◌∷◌, ◌++◌, Bool, length, drop, Option, Some, option_map, option_and_then, if◌then◌else◌}
use Rattle.std.specs.Option.{option_map_or}
use Rattle.bits.specs.Bits.{number_bits}
use Rattle.bits.specs.Sums.{total}
use Rattle.bits.specs.Layout.{Layout, done, unless, field, run, choice, kind, part, inner, measured, more, reported_as, then_}
use Rattle.bits.specs.declared.name.VariableName.{VariableName}

-- A field as it is taken: the name of its variable, the number of its bits, and the number that they spell; or a run of
-- bits.
pub data ListedField : Type 0 where
  named : VariableName → ℕ → ℕ → ListedField
  raw : List Bool → ListedField

-- What is read again of a value that is written. It is None where a kind is to be written that the value is not.
abbrev pub value : {F C A : Type 0} → Layout F C A → C → Option A
value (done x) c = Some x
value (unless bad f) c = Some tt
value (field name f g codes get) c = Some (get c)
value (run n f get) c = Some (get c)
value (choice b m n) c = if b then value m c else value n c
value (kind make get m) c = option_and_then (λ d. option_map make (value m d)) (get c)
value (part given m get) c = Some (get c)
value (inner m get) c = Some (get c)
value (measured f before m) c = option_map (λ p. p.1) (value m c)
value (more n m before get) c = Some (get c)
value (reported_as g m) c = value m c
value (then_ m f) c = option_and_then (λ x. value (f x) c) (value m c)

-- what becomes of s when it takes elements one after another
unfoldable pub each_taken : {D S : Type 0} → (D → S → S) → List D → S → S
each_taken w [] s = s
each_taken w (x ∷ xs) s = each_taken w xs (w x s)

-- What becomes of s when it takes the fields of a value, one after another.
abbrev pub taken : {F C A S : Type 0} → (S → ListedField → S) → Layout F C A → C → S → S
taken t (done x) c s = s
taken t (unless bad f) c s = s
taken t (field name f g codes get) c s = t s (named name codes.width (codes.number (get c)))
taken t (run n f get) c s = t s (raw (get c))
taken t (choice b m n) c s = if b then taken t m c s else taken t n c s
taken t (kind make get m) c s = option_map_or (λ d. taken t m d s) (get c) s
taken t (part given m get) c s = option_map_or (λ d. taken t m d s) (get c) s
taken t (inner m get) c s = taken t m (get c) s
taken t (measured f before m) c s = taken t m c s
taken t (more n m before get) c s = each_taken (λ x left. taken t m x left) (drop (length before) (get c)) s
taken t (reported_as g m) c s = taken t m c s
taken t (then_ m f) c s = option_map_or (λ x. taken t (f x) c (taken t m c s)) (value m c) (taken t m c s)

-- The number of bits of a value.
abbrev pub size : {F C A : Type 0} → Layout F C A → C → ℕ
size (done x) c = 0
size (unless bad f) c = 0
size (field name f g codes get) c = codes.width
size (run n f get) c = length (get c)
size (choice b m n) c = if b then size m c else size n c
size (kind make get m) c = option_map_or (λ d. size m d) (get c) 0
size (part given m get) c = option_map_or (λ d. size m d) (get c) 0
size (inner m get) c = size m (get c)
size (measured f before m) c = size m c
size (more n m before get) c = total (λ x. size m x) (drop (length before) (get c))
size (reported_as g m) c = size m c
size (then_ m f) c = size m c + option_map_or (λ x. size (f x) c) (value m c) 0

-- the bits of a field
abbrev pub listed_bits : ListedField → List Bool
listed_bits (named name width v) = number_bits width v
listed_bits (raw bits) = bits

-- bits with those of a field after them
abbrev pub with_bits : List Bool → ListedField → List Bool
with_bits front x = front ++ listed_bits x

-- The bits before, and then those of a value.
abbrev pub appended : {F C A : Type 0} → Layout F C A → C → List Bool → List Bool
appended m c front = taken with_bits m c front

-- The fields of a value.
abbrev pub field_list : {F C A : Type 0} → Layout F C A → C → List ListedField
field_list m c = taken (λ s x. s ++ x ∷ []) m c []

-- what becomes of s when it takes fields, one after another
abbrev pub each_field : {S : Type 0} → (S → ListedField → S) → List ListedField → S → S
each_field t [] s = s
each_field t (x ∷ xs) s = each_field t xs (t s x)
