-- Whatever takes the fields of a value takes the list of its fields, one after another.
use Rattle.std.proofs.Common.{◌∷◌, ◌≡◌, true, false, List, [], ◌++◌, length, drop, Option, Some, None, refl, sym, ap, ◌∙◌}
use Rattle.std.specs.Option.{option_map_or}
use Rattle.bits.specs.Layout.{Layout, done, unless, field, run, choice, kind, part, inner, measured, more, reported_as, then_}
use Rattle.bits.specs.Writing.{ListedField, named, raw, value, each_taken, each_field, taken, field_list}

abbrev following : List ListedField → ListedField → List ListedField
following xs x = xs ++ x ∷ []

field-following : {S : Type 0} (t : S → ListedField → S) (xs : List ListedField) (x : ListedField) (s : S) → each_field t (following xs x) s ≡ t (each_field t xs s) x
field-following t [] x s = refl
field-following t (y ∷ xs) x s = field-following t xs x (t s y)

each-field_list : {D S : Type 0} (t : S → ListedField → S) (w : D → List ListedField → List ListedField) (v : D → S → S) (xs : List D) (before : List ListedField) (s : S)
    → ((x : D) (left : List ListedField) → each_field t (w x left) s ≡ v x (each_field t left s)) → each_field t (each_taken w xs before) s ≡ each_taken v xs (each_field t before s)
unfolding each_taken
each-field_list t w v [] before s one = refl
each-field_list t w v (x ∷ xs) before s one = each-field_list t w v xs (w x before) s one ∙ ap (each_taken v xs) (one x before)

option-field_list : {D S : Type 0} (t : S → ListedField → S) (w : D → List ListedField) (v : D → S) (o : Option D) (none : List ListedField) (other : S) (s : S)
    → each_field t none s ≡ other → ((x : D) → each_field t (w x) s ≡ v x) → each_field t (option_map_or w o none) s ≡ option_map_or v o other
option-field_list t w v None none other s e one = e
option-field_list t w v (Some x) none other s e one = one x

walked : {F C A S : Type 0} (t : S → ListedField → S) (m : Layout F C A) (c : C) (before : List ListedField) (s : S) → each_field t (taken following m c before) s ≡ taken t m c (each_field t before s)
walked t (done x) c before s = refl
walked t (unless b f) c before s = refl
walked t (field name f g codes get) c before s = field-following t before (named name codes.width (codes.number (get c))) s
walked t (run n f get) c before s = field-following t before (raw (get c)) s
walked t (choice true m n) c before s = walked t m c before s
walked t (choice false m n) c before s = walked t n c before s
walked t (kind make get m) c before s = option-field_list t (λ d. taken following m d before) (λ d. taken t m d (each_field t before s)) (get c) before (each_field t before s) s refl (λ d. walked t m d before s)
walked t (part given m get) c before s = option-field_list t (λ d. taken following m d before) (λ d. taken t m d (each_field t before s)) (get c) before (each_field t before s) s refl (λ d. walked t m d before s)
walked t (inner m get) c before s = walked t m (get c) before s
walked t (measured f b m) c before s = walked t m c before s
walked t (more n m b get) c before s = each-field_list t (λ x left. taken following m x left) (λ x left. taken t m x left) (drop (length b) (get c)) before s (λ x left. walked t m x left s)
walked t (reported_as g m) c before s = walked t m c before s
walked t (then_ m f) c before s =
    let one = walked t m c before s in
    option-field_list t (λ x. taken following (f x) c (taken following m c before)) (λ x. taken t (f x) c (taken t m c (each_field t before s))) (value m c) (taken following m c before) (taken t m c (each_field t before s)) s one
    (λ x. walked t (f x) c (taken following m c before) s ∙ ap (taken t (f x) c) one)

pub taken-field_list : {F C A S : Type 0} (t : S → ListedField → S) (m : Layout F C A) (c : C) (s : S) → taken t m c s ≡ each_field t (field_list m c) s
taken-field_list t m c s = sym (walked t m c [] s)
