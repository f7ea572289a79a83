-- What a stretch gives, and the least of what it gives.
use Rattle.std.proofs.Common.{◌≡◌, ℕ, zero, suc, ◌≤◌, ℤ, pos, negsuc, ◌+ℤ◌, ◌-ℤ◌, ◌≤ℤ◌, ◌<ℤ◌, List, [], ◌∷◌, ◌++◌, ◌⊎◌, inl, inr, refl, sym, subst, arith}
use Rattle.std.proofs.lemmas.Int.{ints, by_lt_z}
use Rattle.units.specs.Stretches.{over, gathered, least, count_between, natural}

natural_is : (z : ℤ) → pos 0 ≤ℤ z → pos (natural z) ≡ z
natural_is (pos n) h = refl
natural_is (negsuc n) h = absurd (omega (arith, ints))

natural_none : (z : ℤ) → z ≤ℤ pos 0 → natural z ≡ 0
natural_none (pos n) h = omega (arith, ints)
natural_none (negsuc n) h = refl

-- a stretch ends before the centimetre after its last one
count_is : (from to : ℤ) → from ≤ℤ to → from +ℤ pos (count_between from to) ≡ to +ℤ pos 1
count_is from to h =
    let k : pos (natural ((to +ℤ pos 1) -ℤ from)) ≡ (to +ℤ pos 1) -ℤ from = natural_is ((to +ℤ pos 1) -ℤ from) (omega (arith, ints)) in
    rw k (omega (arith, ints))

-- an element of a list
abbrev pub IsIn : {A : Type 0} → A → List A → Type 0
IsIn x [] = ⊥
IsIn x (y ∷ ys) = (x ≡ y) ⊎ IsIn x ys

in_left : {A : Type 0} (x : A) (xs ys : List A) → IsIn x xs → IsIn x (xs ++ ys)
in_left x [] ys h = absurd h
in_left x (y ∷ xs) ys h = elim h [ inl e ↦ inl e | inr k ↦ inr (in_left x xs ys k) ]

in_right : {A : Type 0} (x : A) (xs ys : List A) → IsIn x ys → IsIn x (xs ++ ys)
in_right x [] ys h = h
in_right x (y ∷ xs) ys h = inr (in_right x xs ys h)

in_either : {A : Type 0} (x : A) (xs ys : List A) → IsIn x (xs ++ ys) → IsIn x xs ⊎ IsIn x ys
in_either x [] ys h = inr h
in_either x (y ∷ xs) ys h =
    elim h [ inl e ↦ inl (inl e) | inr k ↦ elim (in_either x xs ys k) [ inl a ↦ inl (inr a) | inr b ↦ inr b ] ]

least_above : (otherwise m : ℕ) (vs : List ℕ) → m ≤ otherwise → ((v : ℕ) → IsIn v vs → m ≤ v) → m ≤ least otherwise vs
least_above otherwise m [] a b = a
least_above otherwise m (v ∷ vs) a b =
    let here : m ≤ v = b v (inl refl) in
    let rest : m ≤ least otherwise vs = least_above otherwise m vs a (λ w k. b w (inr k)) in
    omega arith

-- a speed that is above none of them, and one of them, is the least
pub least_is : (otherwise m : ℕ) (vs : List ℕ) → m ≤ otherwise → ((v : ℕ) → IsIn v vs → m ≤ v) → (m ≡ otherwise) ⊎ IsIn m vs →
    least otherwise vs ≡ m
least_is otherwise m [] a b r = elim r [ inl e ↦ sym e | inr k ↦ absurd k ]
least_is otherwise m (v ∷ vs) a b r =
    let here : m ≤ v = b v (inl refl) in
    let rest : m ≤ least otherwise vs = least_above otherwise m vs a (λ w k. b w (inr k)) in
    elim r [
      | inl e ↦ (let k : least otherwise vs ≡ m = least_is otherwise m vs a (λ w k. b w (inr k)) (inl e) in omega arith)
      | inr h ↦ elim h [
        | inl e ↦ omega arith
        | inr k ↦ (let k : least otherwise vs ≡ m = least_is otherwise m vs a (λ w k. b w (inr k)) (inr k) in omega arith)
      ]
    ]

gathered_at : {A : Type 0} (f : ℤ → List A) (from : ℤ) (n : ℕ) (v : A) → IsIn v (gathered f from n) →
    (c : ℤ) × (from ≤ℤ c) × (c <ℤ (from +ℤ pos n)) × IsIn v (f c)
unfolding gathered
gathered_at f from zero v h = absurd h
gathered_at f from (suc n) v h =
    elim (in_either v (f from) (gathered f (from +ℤ pos 1) n) h) [
      | inl k ↦ (from, omega (arith, ints), omega (arith, ints), k)
      | inr k ↦ (let r = gathered_at f (from +ℤ pos 1) n v k in (r.0, omega (arith, ints, r.1), omega (arith, ints, r.2), r.3))
    ]

in_gathered : {A : Type 0} (f : ℤ → List A) (from : ℤ) (n : ℕ) (v : A) (c : ℤ) → from ≤ℤ c → c <ℤ (from +ℤ pos n) → IsIn v (f c) →
    IsIn v (gathered f from n)
unfolding gathered
in_gathered f from zero v c a b h = absurd (omega (arith, ints))
in_gathered f from (suc n) v c a b h =
    by_lt_z from c
    (λ (later : from <ℤ c). in_right v (f from) (gathered f (from +ℤ pos 1) n) (in_gathered f (from +ℤ pos 1) n v c (omega (arith, ints)) (omega (arith, ints)) h))
    (λ (here : c ≤ℤ from). let e : c ≡ from = omega (arith, ints) in
    in_left v (f from) (gathered f (from +ℤ pos 1) n) (rw e at h))

-- what a stretch gives is given at one of its centimetres
pub over_at : {A : Type 0} (f : ℤ → List A) (from to : ℤ) (v : A) → IsIn v (over f from to) →
    (c : ℤ) × (from ≤ℤ c) × (c ≤ℤ to) × IsIn v (f c)
over_at f from to v given =
    let at = gathered_at f from (count_between from to) v given in
    by_lt_z to from
    (λ (none : to <ℤ from). absurd (let k : count_between from to ≡ 0 = natural_none ((to +ℤ pos 1) -ℤ from) (omega (arith, ints, none)) in omega (arith, ints, at.1, at.2, k)))
    (λ (some : from ≤ℤ to). (at.0, at.1, (let before : at.0 <ℤ (to +ℤ pos 1) = subst (λ (x : ℤ). at.0 <ℤ x) (count_is from to some) at.2 in omega (arith, ints, before)), at.3))

-- what is given at one of its centimetres, the stretch gives
pub in_over : {A : Type 0} (f : ℤ → List A) (from to : ℤ) (v : A) (c : ℤ) → from ≤ℤ c → c ≤ℤ to → IsIn v (f c) → IsIn v (over f from to)
in_over f from to v c low high given =
    let whole : from ≤ℤ to = omega (arith, ints, low, high) in
    in_gathered f from (count_between from to) v c low
    (subst (λ (x : ℤ). c <ℤ x) (sym (count_is from to whole)) (omega (arith, ints, high))) given
