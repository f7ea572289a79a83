-- What is in lists.
use Rattle.std.proofs.Common.{◌≡◌, List, [], ◌∷◌, ◌++◌, ◌⊎◌, inl, inr, Bool, true, false, cond, refl, ap, sym, ◌∙◌}
use Rattle.std.specs.Prelude.{filter, map}
use Rattle.units.proofs.Gathering.{IsIn}

pub in_left : {A : Type 0} (x : A) (xs ys : List A) → IsIn x xs → IsIn x (xs ++ ys)
in_left x [] ys h = absurd h
in_left x (y ∷ xs) ys h = elim h [ inl e ↦ inl e | inr k ↦ inr (in_left x xs ys k) ]

pub in_right : {A : Type 0} (x : A) (xs ys : List A) → IsIn x ys → IsIn x (xs ++ ys)
in_right x [] ys h = h
in_right x (y ∷ xs) ys h = inr (in_right x xs ys h)

pub in_either : {A : Type 0} (x : A) (xs ys : List A) → IsIn x (xs ++ ys) → IsIn x xs ⊎ IsIn x ys
in_either x [] ys h = inr h
in_either x (y ∷ xs) ys h =
    elim h [ inl e ↦ inl (inl e) | inr k ↦ elim (in_either x xs ys k) [ inl a ↦ inl (inr a) | inr b ↦ inr b ] ]

-- an element of those that pass a test, each changed
pub one_passed : {A B : Type 0} (f : A → B) (p : A → Bool) (xs : List A) (y : B) → IsIn y (map f (filter p xs)) →
    (x : A) × IsIn x xs × (p x ≡ true) × (y ≡ f x)
one_passed f p [] y h = absurd h
one_passed {A = A} f p (x ∷ xs) y h =
    let rest : IsIn y (map f (filter p xs)) → (z : A) × IsIn z (x ∷ xs) × (p z ≡ true) × (y ≡ f z) =
    λ k. (let w = one_passed f p xs y k in (w.0, inr w.1, w.2, w.3)) in
    let cases : (b : Bool) → p x ≡ b → IsIn y (map f (cond b (x ∷ filter p xs) (filter p xs)))
    → (z : A) × IsIn z (x ∷ xs) × (p z ≡ true) × (y ≡ f z) =
    elim [ true ↦ λ e k. elim k [ inl is ↦ (x, inl refl, e, is) | inr there ↦ rest there ] | false ↦ λ e k. rest k ] in
    cases (p x) refl h

pub passes : {A B : Type 0} (f : A → B) (p : A → Bool) (xs : List A) (x : A) → IsIn x xs → p x ≡ true → IsIn (f x) (map f (filter p xs))
passes f p [] x h e = absurd h
passes f p (y ∷ xs) x h e =
    let cases : (b : Bool) → p y ≡ b → IsIn (f x) (map f (cond b (y ∷ filter p xs) (filter p xs))) =
    elim [
      | true ↦ λ is. elim h [ inl same ↦ inl (ap f same) | inr there ↦ inr (passes f p xs x there e) ]
      | false ↦ λ is. elim h [ inl same ↦ absurd (let k : true ≡ false = sym e ∙ ap p same ∙ is in cc) | inr there ↦ passes f p xs x there e ]
    ] in
    cases (p y) refl
