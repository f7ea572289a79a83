-- What is left of the facts that were reported once the track before a mark is forgotten.
use Rattle.std.proofs.Common.{◌≡◌, ℕ, ◌+◌, ◌<◌, ◌≤◌, ℤ, List, [], ◌∷◌, ◌++◌, length, get_or, take, drop, map, Bool, true, false, cond, refl, ap, sym, ◌∙◌, append_assoc, arith}
use Rattle.std.specs.Prelude.{int_lt, Option, None}
use Rattle.std.specs.Int.{int_max}
use Rattle.std.proofs.lemmas.Int.{ints}
use Rattle.std.proofs.lemmas.List.{drop_more, drop_all, drop-set-lt, take_all, take_more_set, take-append-le}
use Rattle.std.proofs.Math.ListN.{set}
use Rattle.track_store.specs.Facts.{given_by, from_mark}
use Rattle.track_store.specs.Remembered.{Remembered, forgotten, value_remembered}

pub none_below : {A : Type 0} (below : Bool) (value : Option A) → value ≡ None → value ≡ cond below None None
none_below true value is = is
none_below false value is = is

one_forgotten : {A : Type 0} (before below marked after : Bool) (older now value : Option A) → older ≡ cond below None now →
    after ≡ cond below true marked → cond before older (cond after None value) ≡ cond below None (cond before now (cond marked None value))
one_forgotten true true marked after older now value is raised = is
one_forgotten true false marked after older now value is raised = is
one_forgotten false true marked after older now value is raised = rw raised refl
one_forgotten false false marked after older now value is raised = rw raised refl

below_either : (place a b : ℤ) → int_lt place (int_max a b) ≡ cond (int_lt place b) true (int_lt place a)
below_either place a b = grind (arith, ints)

pub all_forgotten : {A : Type 0} (mark : ℤ) (facts : List (Remembered A)) (place : ℤ) →
    value_remembered (map (forgotten mark) facts) place ≡ from_mark mark (value_remembered facts) place
all_forgotten mark [] place = none_below (int_lt place mark) None refl
all_forgotten mark (fact ∷ facts) place =
    one_forgotten (int_lt place fact.start) (int_lt place mark) (int_lt place fact.mark) (int_lt place (int_max fact.mark mark))
    (value_remembered (map (forgotten mark) facts) place) (value_remembered facts place) (given_by fact.steps place)
    (all_forgotten mark facts place) (below_either place fact.mark mark)

nothing_after : {A : Type 0} (xs : List A) → xs ++ [] ≡ xs
nothing_after [] = refl
nothing_after (x ∷ xs) = ap (λ ys. x ∷ ys) (nothing_after xs)

pub taken_front : {A : Type 0} (xs ys : List A) (n : ℕ) → length xs ≡ n → take n (xs ++ ys) ≡ xs
taken_front xs ys n is = take-append-le n xs ys (omega arith) ∙ take_all n xs (omega arith)

module _ {A : Type 0} (f : A → A) (initial : List A) where
  -- one element more is changed
  pub one_changed : (xs : List A) (i : ℕ) (x y d : A) → i < length xs → x ≡ get_or xs i d → y ≡ f x →
      take i xs ++ map f (drop i xs) ≡ map f initial →
      take (i + 1) (set xs i y) ++ map f (drop (i + 1) (set xs i y)) ≡ map f initial
  one_changed xs i x y d inside is made so_far =
      let front : drop i xs ≡ x ∷ drop (i + 1) xs = drop_more xs i d inside ∙ ap (λ z. z ∷ drop (i + 1) xs) (sym is) in
      ap (λ zs. zs ++ map f (drop (i + 1) (set xs i y))) (take_more_set xs i y inside)
      ∙ ap (λ zs. (take i xs ++ y ∷ []) ++ map f zs) (drop-set-lt (i + 1) xs i y (omega arith))
      ∙ append_assoc (take i xs) (y ∷ []) (map f (drop (i + 1) xs))
      ∙ ap (λ z. take i xs ++ z ∷ map f (drop (i + 1) xs)) made
      ∙ ap (λ zs. take i xs ++ map f zs) (sym front) ∙ so_far

  -- all are changed
  pub all_changed : (xs ys : List A) (i n : ℕ) → length xs ≤ i → length xs ≡ n → take i xs ++ map f (drop i xs) ≡ map f initial →
      take n (xs ++ ys) ≡ map f initial
  all_changed xs ys i n all is so_far =
      taken_front xs ys n is
      ∙ sym (ap (λ zs. zs ++ map f (drop i xs)) (take_all i xs all) ∙ ap (λ zs. xs ++ map f zs) (drop_all i xs all) ∙ nothing_after xs) ∙ so_far
