-- Which values have a spelling: each variable is read again from its number, and qualifiers and counts are true (this
-- project's profile).
use Rattle.std.specs.Prelude.{◌≡◌, ◌+◌, ◌<◌, ◌^◌, ℕ, Bool, true, false, List, [], ◌∷◌, length, take, drop, Option, Some, Ok, IfSome, is_some}
use Rattle.std.specs.List.{AllByRecursion as Each}
use Rattle.bits.specs.Layout.{Codes, Layout, done, unless, field, run, choice, kind, part, inner, measured, more, reported_as, then_}
use Rattle.bits.specs.Writing.{value, size}

-- The number of the value has no more bits than the variable, and is that of this value.
pub record HasNumber {E A : Type 0} (codes : Codes E A) (x : A) : Type 0 where
  pub small : codes.number x < 2 ^ codes.width
  pub own : codes.value (codes.number x) ≡ Ok x

-- The value is as its layout wants it.
abbrev pub Fits : {F C A : Type 0} → Layout F C A → C → Type 0
Fits (done x) c = Unit {0}
Fits (unless bad f) c = bad ≡ false
Fits (field name f g codes get) c = HasNumber codes (get c)
Fits (run n f get) c = length (get c) ≡ n
Fits (choice true m n) c = Fits m c
Fits (choice false m n) c = Fits n c
Fits (kind make get m) c = (d : _) × (get c ≡ Some d) × Fits m d
Fits (part given m get) c = (is_some (get c) ≡ given) × IfSome (get c) (λ d. Fits m d × (value m d ≡ Some d))
Fits (inner m get) c = Fits m (get c) × (value m (get c) ≡ Some (get c))
Fits (measured f before m) c = Fits m c × IfSome (value m c) (λ p. p.0 ≡ before + size m c)
Fits (more n m before get) c =
    (take (length before) (get c) ≡ before) × (length (drop (length before) (get c)) ≡ n) × Each (λ d. Fits m d × (value m d ≡ Some d)) (drop (length before) (get c))
Fits (reported_as g m) c = Fits m c
Fits (then_ m f) c = Fits m c × IfSome (value m c) (λ x. Fits (f x) c)

-- The value fits the layout, and is what the layout reads of it.
abbrev pub Spellable : {F D : Type 0} → Layout F D D → D → Type 0
Spellable m d = Fits m d × (value m d ≡ Some d)
