-- What fits a layout has a spelling: what is appended for it.
use Rattle.std.proofs.Common.{ℕ, zero, suc, ◌∷◌, ◌+◌, ◌<◌, ◌≤◌, subst, ◌≡◌, Bool, true, false, List, [], ◌++◌, length, take, drop, get_or, Option, Some, None, Ok, refl, sym, ap, ◌∙◌, arith, append_assoc, length-append, drop-cons}
use Rattle.std.specs.Prelude.{is_some, option_map, option_and_then, IfSome}
use Rattle.std.specs.Option.{option_map_or}
use Rattle.std.proofs.lemmas.List.{append-nil, take-append-drop, drop_all}
use Rattle.bits.specs.Bits.{number, number_bits}
use Rattle.std.specs.List.{AllByRecursion as Each}
use Rattle.bits.specs.Fitting.{HasNumber, Fits, Spellable}
use Rattle.bits.specs.Layout.{Codes, Layout, done, unless, field, run, choice, kind, part, inner, measured, more, reported_as, then_, Spells, InTurn}
use Rattle.bits.specs.Writing.{value, each_taken, size, appended}
use Rattle.bits.proofs.Numbers.{length-number_bits, number-of_bits}
use Rattle.bits.proofs.WritingLaws.{glue, length-appended}

-- what is appended for x spells it
pub record Spelling {F C A : Type 0} (m : Layout F C A) (c : C) (x : A) (front : List Bool) : Type 0 where
  pub bits : List Bool
  pub put : front ++ bits ≡ appended m c front
  pub spells : Spells m x bits

some_same : {A : Type 0} (x y : A) → Some x ≡ Some y → x ≡ y
some_same x y e = cc

none_or_some : {A : Type 0} (x : A) → None ≡ Some x → ⊥
none_or_some x e = absurd cc

-- what a map or a chain gave
mapped : {B A : Type 0} (make : B → A) (o : Option B) (x : A) → option_map make o ≡ Some x → (y : B) × (o ≡ Some y) × (x ≡ make y)
mapped make None x e = absurd (none_or_some x e)
mapped make (Some y) x e = (y, refl, sym (some_same (make y) x e))

chained : {A B : Type 0} (k : A → Option B) (o : Option A) (y : B) → option_and_then k o ≡ Some y → (x : A) × (o ≡ Some x) × (k x ≡ Some y)
chained k None y e = absurd (none_or_some y e)
chained k (Some x) y e = (x, refl, e)

-- a part that is there where it is given
part_spelling : {F C D : Type 0} (m : Layout F D D) (get : C → Option D) (given : Bool) (o : Option D) (front : List Bool) → ((d : D) → Spellable m d → Spelling m d d front)
    → is_some o ≡ given → IfSome o (λ d. Fits m d × (value m d ≡ Some d)) → (bits : List Bool) × (front ++ bits ≡ option_map_or (λ d. appended m d front) o front) × Spells (part given m get) o bits
part_spelling m get true None front one there fits = absurd cc
part_spelling m get true (Some d) front one there fits = let a = one d fits in (a.bits, a.put, (d, refl, a.spells))
part_spelling m get false None front one there fits = ([], append-nil front, (refl, refl))
part_spelling m get false (Some d) front one there fits = absurd cc

-- elements one after another
each_spelling : {F D : Type 0} (m : Layout F D D) (n : ℕ) (xs : List D) (front : List Bool) → ((d : D) (before : List Bool) → Spellable m d → Spelling m d d before)
    → length xs ≡ n → Each (λ d. Fits m d × (value m d ≡ Some d)) xs
    → (bits : List Bool) × (front ++ bits ≡ each_taken (λ x left. appended m x left) xs front) × InTurn (λ x left. Spells m x left) n xs bits
unfolding each_taken
each_spelling m zero [] front one long each = ([], append-nil front, refl)
each_spelling m zero (x ∷ xs) front one long each = absurd (omega arith)
each_spelling m (suc n) [] front one long each = absurd (omega arith)
each_spelling m (suc n) (x ∷ xs) front one long each =
    let first = one x front each.0 in
    let others = each_spelling m n xs (appended m x front) one (omega arith) each.1 in
    (first.bits ++ others.0, glue front (first.bits ++ others.0) first.bits others.0 (appended m x front) _ refl first.put others.1, (first.bits, others.0, refl, first.spells, others.2))

pub spelling : {F C A : Type 0} (m : Layout F C A) (c : C) (x : A) (front : List Bool) → Fits m c → value m c ≡ Some x → Spelling m c x front
spelling (done y) c x front h e = record { bits = []; put = append-nil front; spells = (sym (some_same y x e), refl) }
spelling (unless b f) c x front h e = record { bits = []; put = append-nil front; spells = (h, refl) }
spelling (field name f g codes get) c x front h e = record {
  bits = number_bits codes.width (codes.number (get c));
  put = refl;
  spells = (length-number_bits codes.width (codes.number (get c)), ap codes.value (number-of_bits codes.width (codes.number (get c)) h.small) ∙ h.own ∙ ap Ok (some_same (get c) x e));
}
spelling (run n f get) c x front h e = record { bits = get c; put = refl; spells = (h, some_same (get c) x e) }
spelling (choice true m n) c x front h e = let a = spelling m c x front h e in record { bits = a.bits; put = a.put; spells = a.spells }
spelling (choice false m n) c x front h e = let a = spelling n c x front h e in record { bits = a.bits; put = a.put; spells = a.spells }
spelling (kind make get m) c x front h e =
    let y = mapped make (value m h.0) x (ap (λ (o : Option _). option_and_then (λ d. option_map make (value m d)) o) (sym h.1) ∙ e) in
    let a = spelling m h.0 y.0 front h.2 y.1 in
    record { bits = a.bits; put = a.put ∙ sym (ap (λ (o : Option _). option_map_or (λ d. appended m d front) o front) h.1); spells = (y.0, y.2, a.spells) }
spelling (part given m get) c x front h e =
    let a = part_spelling m get given (get c) front (λ d s. spelling m d d front s.0 s.1) h.0 h.1 in
    record { bits = a.0; put = a.1; spells = subst (λ (o : Option _). Spells (part given m get) o a.0) (some_same (get c) x e) a.2 }
spelling (inner m get) c x front h e =
    let a = spelling m (get c) (get c) front h.0 h.1 in
    record { bits = a.bits; put = a.put; spells = subst (λ (z : _). Spells m z a.bits) (some_same (get c) x e) a.spells }
spelling (measured f before m) c x front h e =
    let y = mapped (λ p. p.1) (value m c) x e in
    let a = spelling m c y.0 front h.0 y.1 in
    let reported : y.0.0 ≡ before + size m c = subst (λ (o : Option _). IfSome o (λ p. p.0 ≡ before + size m c)) y.1 h.1 in
    record {
      bits = a.bits;
      put = a.put;
      spells = (y.0.0, subst (λ (z : _). Spells m (y.0.0, z) a.bits) (sym y.2) a.spells, omega (arith, reported, ap length a.put, length-append front a.bits, length-appended m c front));
    }
spelling (more n m before get) c x front h e =
    let a = each_spelling m n (drop (length before) (get c)) front (λ d left s. spelling m d d left s.0 s.1) h.1 h.2 in
    record {
      bits = a.0;
      put = a.1;
      spells = (
        drop (length before) (get c),
        sym (some_same (get c) x e) ∙ sym (take-append-drop (length before) (get c)) ∙ ap (λ (t : List _). t ++ drop (length before) (get c)) h.0,
        a.2,
      );
    }
spelling (reported_as g m) c x front h e = let a = spelling m c x front h e in record { bits = a.bits; put = a.put; spells = a.spells }
spelling (then_ m f) c x front h e =
    let y = chained (λ z. value (f z) c) (value m c) x e in
    let a = spelling m c y.0 front h.0 y.1 in
    let rest : Fits (f y.0) c = subst (λ (o : Option _). IfSome o (λ z. Fits (f z) c)) y.1 h.1 in
    let b = spelling (f y.0) c x (appended m c front) rest y.2 in
    record {
      bits = a.bits ++ b.bits;
      put = glue front (a.bits ++ b.bits) a.bits b.bits (appended m c front) _ refl a.put b.put
          ∙ sym (ap (λ (o : Option _). option_map_or (λ z. appended (f z) c (appended m c front)) o (appended m c front)) y.1);
      spells = (y.0, a.bits, b.bits, refl, a.spells, b.spells);
    }

-- what a layout reads of a value that fits it
pub spellable : {F D : Type 0} (m : Layout F D D) (x : D) → Spellable m x → (bits : List Bool) × Spells m x bits
spellable m x h = let a = spelling m x x [] h.0 h.1 in (a.bits, a.spells)

-- ---- a loop over elements

-- all elements are as P says where those from i on are
pub record FromOn {D : Type 0} (P : D → Type 0) (xs : List D) (i : ℕ) : Type 0 where
  pub all : Each P (drop i xs) → Each P xs
  pub left : Each P xs → Each P (drop i xs)

cut_at : {D : Type 0} (xs : List D) (i : ℕ) (x d : D) → i < length xs → x ≡ get_or xs i d → drop i xs ≡ x ∷ drop (i + 1) xs
cut_at xs i x d lt e =
    let next : suc i ≡ i + 1 = omega arith in
    drop-cons xs i d lt ∙ ap (λ (y : _). y ∷ drop (suc i) xs) (sym e) ∙ ap (λ (n : ℕ). x ∷ drop n xs) next

pub from_start : {D : Type 0} (P : D → Type 0) (xs : List D) → FromOn P xs 0
from_start P xs = record { all = λ h. h; left = λ h. h }

pub from_next : {D : Type 0} (P : D → Type 0) (xs : List D) (i : ℕ) (x d : D) → i < length xs → x ≡ get_or xs i d → P x → FromOn P xs i → FromOn P xs (i + 1)
from_next P xs i x d lt e here on =
    let cut = cut_at xs i x d lt e in
    record { all = λ h. on.all (subst (λ (t : List _). Each P t) (sym cut) (here, h)); left = λ h. (subst (λ (t : List _). Each P t) cut (on.left h)).1 }

pub from_end : {D : Type 0} (P : D → Type 0) (xs : List D) (i : ℕ) → length xs ≤ i → FromOn P xs i → Each P xs
from_end P xs i le on = on.all (subst (λ (t : List _). Each P t) (sym (drop_all i xs le)) tt)

pub not_here : {D : Type 0} (P : D → Type 0) (xs : List D) (i : ℕ) (x d : D) → i < length xs → x ≡ get_or xs i d → (P x → ⊥) → FromOn P xs i → Each P xs → ⊥
not_here P xs i x d lt e other on h = other (subst (λ (t : List _). Each P t) (cut_at xs i x d lt e) (on.left h)).0

pub each_append : {D : Type 0} (P : D → Type 0) (xs ys : List D) → Each P xs → Each P ys → Each P (xs ++ ys)
each_append P [] ys a b = b
each_append P (x ∷ xs) ys a b = (a.0, each_append P xs ys a.1 b)

pub each_take : {D : Type 0} (P : D → Type 0) (n : ℕ) (xs : List D) → Each P xs → Each P (take n xs)
each_take P zero xs h = tt
each_take P (suc n) [] h = tt
each_take P (suc n) (x ∷ xs) h = (h.0, each_take P n xs h.1)

pub each_drop : {D : Type 0} (P : D → Type 0) (n : ℕ) (xs : List D) → Each P xs → Each P (drop n xs)
each_drop P zero xs h = h
each_drop P (suc n) [] h = tt
each_drop P (suc n) (x ∷ xs) h = each_drop P n xs h.1
