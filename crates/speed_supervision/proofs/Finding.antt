-- What is found in a list, and what isn't.
use Rattle.std.proofs.Common.{◌≡◌, ℕ, zero, suc, ◌+◌, ◌<◌, List, [], ◌∷◌, inl, inr, Bool, true, false, cond, refl, ap, sym, ◌∙◌, subst, arith, length, drop, get_or}
use Rattle.std.specs.Prelude.{Option, None, Some, is_some, find, Contains, MatchOption}
use Rattle.std.proofs.Math.Seq.{drop-cons}
use Rattle.std.proofs.lemmas.Option.{same_Some}
use Rattle.units.specs.Stretches.{least}
use Rattle.units.proofs.Gathering.{IsIn}
use Rattle.track_store.specs.Profiles.{listed}
use Rattle.track_store.proofs.Jumps.{least_one_of}

one_farther : {A : Type 0} (y : A) (xs : List A) (x : A) → Contains xs x → Contains (y ∷ xs) x
one_farther y xs x there = (suc there.0, omega (arith, there.1), there.2)

pub found : {A : Type 0} (p : A → Bool) (xs : List A) (x : A) → find p xs ≡ Some x → Contains xs x × (p x ≡ true)
found p [] x h = absurd (let no : None ≡ Some x = h in cc)
found {A = A} p (y ∷ xs) x h =
    let cases : (b : Bool) → p y ≡ b → cond b (Some y) (find p xs) ≡ Some x → Contains (y ∷ xs) x × (p x ≡ true) = elim [
      | true ↦ λ e k. (let same : y ≡ x = same_Some y x k in ((0, omega arith, same), ap p (sym same) ∙ e))
      | false ↦ λ e k. (let r = found p xs x k in (one_farther y xs x r.0, r.1))
    ] in
    cases (p y) refl h

pub none_found : {A : Type 0} (p : A → Bool) (xs : List A) → find p xs ≡ None → (x : A) → IsIn x xs → p x ≡ true → ⊥
none_found p [] h x there e = there
none_found {A = A} p (y ∷ xs) h x there e =
    let cases : (b : Bool) → p y ≡ b → cond b (Some y) (find p xs) ≡ None → ⊥ = elim [
      | true ↦ λ f k. (let no : Some y ≡ None = k in cc)
      | false ↦ λ f k. elim there [
        | inl same ↦ (let no : true ≡ false = sym e ∙ ap p same ∙ f in cc)
        | inr following ↦ none_found p xs k x following e
      ]
    ] in
    cases (p y) refl h

pub listed_is : {A : Type 0} (o : Option A) (x : A) → IsIn x (listed o) → o ≡ Some x
listed_is None x h = absurd h
listed_is (Some y) x h = elim h [ inl same ↦ ap Some (sym same) | inr never ↦ absurd never ]

-- a least speed that is none of some is the one given first
pub other_than : (speed limit : ℕ) (vs : List ℕ) → least speed vs ≡ limit → (IsIn limit vs → ⊥) → speed ≡ limit
other_than speed limit vs is none =
    elim (least_one_of speed vs) [
      | inl e ↦ sym e ∙ is
      | inr there ↦ absurd (none (subst (λ x. IsIn x vs) is there))
    ]

pub one_dropped : {X : Type 0} (xs : List X) (i : ℕ) (x : X) → i < length xs → x ≡ get_or xs i x → drop i xs ≡ x ∷ drop (i + 1) xs
one_dropped xs i x inside is =
    let next : suc i ≡ i + 1 = omega arith in
    drop-cons xs i x inside ∙ (λ j. sym is j ∷ drop (next j) xs)

-- what follows from the case without a value
pub or_else : {T : Type 0} (o : Option T) (A B : Type 0) (Q : T → Type 0) → (A → B) → MatchOption o A Q → MatchOption o B Q
or_else None A B Q f h = f h
or_else (Some x) A B Q f h = h

in_at : {A : Type 0} (xs : List A) (x : A) (k : ℕ) → k < length xs → get_or xs k x ≡ x → IsIn x xs
in_at [] x k inside is = absurd (omega arith)
in_at (y ∷ xs) x zero inside is = inl (sym is)
in_at (y ∷ xs) x (suc k) inside is = inr (in_at xs x k (omega arith) is)

pub in_from_contains : {A : Type 0} (xs : List A) (x : A) → Contains xs x → IsIn x xs
in_from_contains xs x there = in_at xs x there.0 there.1 there.2

pub contains_from_in : {A : Type 0} (xs : List A) (x : A) → IsIn x xs → Contains xs x
contains_from_in [] x h = absurd h
contains_from_in (y ∷ xs) x h =
    elim h [
      | inl same ↦ (0, omega arith, sym same)
      | inr there ↦ one_farther y xs x (contains_from_in xs x there)
    ]

pub listed_in : {A : Type 0} (o : Option A) (x : A) → o ≡ Some x → IsIn x (listed o)
listed_in None x h = absurd (let no : None ≡ Some x = h in cc)
listed_in (Some y) x h = inl (sym (same_Some y x h))

-- what is reported where something is found, and where nothing is
pub some_reported : {T : Type 0} (o : Option T) (A B : Type 0) (Q R : T → Type 0) → is_some o ≡ true → MatchOption o A Q →
    ((x : T) → Q x → R x) → MatchOption o B R
some_reported None A B Q R some h f = absurd (let no : false ≡ true = some in cc)
some_reported (Some x) A B Q R some h f = f x h

pub none_reported : {T : Type 0} (o : Option T) (A : Type 0) (Q : T → Type 0) → is_some o ≡ false → MatchOption o A Q → A
none_reported None A Q none h = h
none_reported (Some x) A Q none h = absurd (let no : true ≡ false = none in cc)
