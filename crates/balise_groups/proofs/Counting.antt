-- The readings of a group that count.
use Rattle.std.proofs.Common.{◌≡◌, ℕ, List, [], ◌∷◌, ◌++◌, Bool, true, false, cond, refl, ap, sym, ◌∙◌, arith}
use Rattle.std.specs.Prelude.{◌||◌}
use Rattle.std.proofs.lemmas.List.Folds.{list_any-append}
use Rattle.std.proofs.lemmas.Bool.Decides.{nat_tests}
use Rattle.balise_groups.specs.declared.reading.Reading.{Reading}
use Rattle.balise_groups.specs.Closing.{is_at, is_read, reading_at}
use Rattle.balise_groups.specs.Groups.{counting}
use Rattle.balise_groups.specs.Laws.{oldest}

or_last : (a b : Bool) → (a || (b || false)) ≡ (b || a)
or_last true true = refl
or_last true false = refl
or_last false true = refl
or_last false false = refl

at_place : (place : ℕ) (r : Reading) → is_at place r ≡ true → r.telegram.header.position ≡ place
at_place place r h = grind (arith, nat_tests, h)

-- one more place, of a reading that counts or of one that does not
one_more : (xs : List Reading) (r : Reading) (place : ℕ) (b : Bool) → is_read xs r.telegram.header.position ≡ b →
    is_read (cond b xs (xs ++ r ∷ [])) place ≡ (is_at place r || is_read xs place)
one_more xs r place true e =
    let cases : (a : Bool) → is_at place r ≡ a → is_read xs place ≡ (a || is_read xs place) =
    elim [ true ↦ λ h. sym (ap (is_read xs) (at_place place r h)) ∙ e | false ↦ λ h. refl ] in
    cases (is_at place r) refl
one_more xs r place false e =
    list_any-append (is_at place) xs (r ∷ []) ∙ or_last (is_read xs place) (is_at place r)

pub keeps_each_place : (rs : List Reading) (place : ℕ) → is_read (counting rs) place ≡ is_read rs place
keeps_each_place [] place = refl
keeps_each_place (r ∷ rs) place =
    one_more (counting rs) r place _ refl ∙ ap (λ b. is_at place r || b) (keeps_each_place rs place)

at_last : (xs : List Reading) (r other : Reading) (place : ℕ) →
    reading_at place other (xs ++ r ∷ []) ≡ reading_at place (cond (is_at place r) r other) xs
at_last [] r other place = refl
at_last (x ∷ xs) r other place = ap (λ y. cond (is_at place x) x y) (at_last xs r other place)

at_read : (xs : List Reading) (a b : Reading) (place : ℕ) → is_read xs place ≡ true → reading_at place a xs ≡ reading_at place b xs
at_read [] a b place h = cc
at_read (x ∷ xs) a b place h =
    let cases : (t : Bool) → (t || is_read xs place) ≡ true → cond t x (reading_at place a xs) ≡ cond t x (reading_at place b xs) =
    elim [ true ↦ λ k. refl | false ↦ λ k. at_read xs a b place k ] in
    cases (is_at place x) h

one_older : (xs : List Reading) (r other : Reading) (place : ℕ) (b : Bool) → is_read xs r.telegram.header.position ≡ b →
    reading_at place other (cond b xs (xs ++ r ∷ [])) ≡ reading_at place (cond (is_at place r) r other) xs
one_older xs r other place false e = at_last xs r other place
one_older xs r other place true e =
    let cases : (a : Bool) → is_at place r ≡ a → reading_at place other xs ≡ reading_at place (cond a r other) xs =
    elim [ true ↦ λ h. at_read xs other r place (sym (ap (is_read xs) (at_place place r h)) ∙ e) | false ↦ λ h. refl ] in
    cases (is_at place r) refl

pub counts_the_first : (rs : List Reading) (place : ℕ) (other : Reading) → reading_at place other (counting rs) ≡ oldest place other rs
counts_the_first [] place other = refl
counts_the_first (r ∷ rs) place other =
    one_older (counting rs) r other place _ refl ∙ counts_the_first rs place (cond (is_at place r) r other)
