-- Where a value lasts, it counts once for the least over a stretch.
use Rattle.std.proofs.Common.{◌≡◌, ℕ, ◌<◌, ◌≤◌, min, ℤ, pos, negsuc, ◌+ℤ◌, ◌-ℤ◌, ◌≤ℤ◌, ◌<ℤ◌, List, [], ◌∷◌, ◌⊎◌, inl, inr, refl, ap, sym, subst, ◌∙◌, arith}
use Rattle.std.specs.Prelude.{true, false, Option, None, Some, is_some}
use Rattle.std.proofs.lemmas.Int.{ints, by_lt_z}
use Rattle.units.specs.Stretches.{over, gathered, least, natural, count_between}
use Rattle.units.proofs.Gathering.{IsIn, least_is, over_at, in_over}
use Rattle.track_store.specs.Profiles.{listed, lesser, is_any}

pub least_below : (limit : ℕ) (vs : List ℕ) → least limit vs ≤ limit
least_below limit [] = omega arith
least_below limit (v ∷ vs) = omega (arith, least_below limit vs)

least_below_each : (limit : ℕ) (vs : List ℕ) (w : ℕ) → IsIn w vs → least limit vs ≤ w
least_below_each limit [] w h = absurd h
least_below_each limit (v ∷ vs) w h = elim h [ inl e ↦ omega arith | inr k ↦ omega (arith, least_below_each limit vs w k) ]

pub least_one_of : (limit : ℕ) (vs : List ℕ) → (least limit vs ≡ limit) ⊎ IsIn (least limit vs) vs
least_one_of limit [] = inl refl
least_one_of limit (v ∷ vs) =
    let least_two : (a b : ℕ) → (min a b ≡ a) ⊎ (min a b ≡ b) = λ a b. grind arith in
    elim (least_two v (least limit vs)) [
      | inl e ↦ inr (inl e)
      | inr e ↦ elim (least_one_of limit vs) [
        | inl same ↦ inl (e ∙ same)
        | inr there ↦ inr (inr (subst (λ x. IsIn x vs) (sym e) there))
      ]
    ]

pub lesser_below : (limit : ℕ) (value : Option ℕ) → lesser limit value ≤ limit
lesser_below limit None = omega arith
lesser_below limit (Some v) = omega arith

lesser_below_it : (limit : ℕ) (value : Option ℕ) (w : ℕ) → IsIn w (listed value) → lesser limit value ≤ w
lesser_below_it limit None w h = absurd h
lesser_below_it limit (Some v) w h = elim h [ inl e ↦ omega arith | inr k ↦ absurd k ]

lesser_one_of : (limit : ℕ) (value : Option ℕ) → (lesser limit value ≡ limit) ⊎ IsIn (lesser limit value) (listed value)
lesser_one_of limit None = inl refl
lesser_one_of limit (Some v) =
    let least_two : (min v limit ≡ limit) ⊎ (min v limit ≡ v) = grind arith in
    elim least_two [ inl e ↦ inl e | inr e ↦ inr (inl e) ]

pub natural_is : (z : ℤ) → pos 0 ≤ℤ z → pos (natural z) ≡ z
natural_is (pos n) h = refl
natural_is (negsuc n) h = absurd (omega (arith, ints))

pub natural_none : (z : ℤ) → z ≤ℤ pos 0 → natural z ≡ 0
natural_none (pos n) h = omega (arith, ints)
natural_none (negsuc n) h = refl

-- no centimetre, no value
pub none_over : {A : Type 0} (f : ℤ → List A) (from to : ℤ) → to <ℤ from → over f from to ≡ []
unfolding gathered
none_over f from to h =
    let k : count_between from to ≡ 0 = natural_none ((to +ℤ pos 1) -ℤ from) (omega (arith, ints)) in
    ap (gathered f from) k

-- further on, fewer centimetres are left
pub fewer_left : (place next to : ℤ) → place ≤ℤ to → place <ℤ next → count_between next to < count_between place to
fewer_left place next to here ahead =
    let now : pos (count_between place to) ≡ (to +ℤ pos 1) -ℤ place = natural_is ((to +ℤ pos 1) -ℤ place) (omega (arith, ints)) in
    by_lt_z to next
    (λ (beyond : to <ℤ next). let k : count_between next to ≡ 0 = natural_none ((to +ℤ pos 1) -ℤ next) (omega (arith, ints)) in
    omega (arith, ints, now, k))
    (λ (within : next ≤ℤ to).
    let left : pos (count_between next to) ≡ (to +ℤ pos 1) -ℤ next = natural_is ((to +ℤ pos 1) -ℤ next) (omega (arith, ints)) in
    omega (arith, ints, now, left))

module _ (value : ℤ → Option ℕ) (limit : ℕ) (place to : ℤ) (here : place ≤ℤ to) where
  -- to go on from the next change
  pub jump : (next : ℤ) → place <ℤ next → ((later : ℤ) → place ≤ℤ later → later <ℤ next → value later ≡ value place) →
      least (lesser limit (value place)) (over (λ c. listed (value c)) next to) ≡ least limit (over (λ c. listed (value c)) place to)
  jump next ahead same =
      let now = lesser limit (value place) in
      let rest = over (λ c. listed (value c)) next to in
      sym (least_is limit (least now rest) (over (λ c. listed (value c)) place to)
      (omega (arith, least_below now rest, lesser_below limit (value place)))
      (λ v given. let at = over_at (λ c. listed (value c)) place to v given in
      by_lt_z at.0 next
      (λ (before : at.0 <ℤ next). let here : IsIn v (listed (value place)) = rw (same at.0 at.1 before) at at.3 in
      omega (arith, least_below now rest, lesser_below_it limit (value place) v here))
      (λ (farther : next ≤ℤ at.0).
      least_below_each now rest v (in_over (λ c. listed (value c)) next to v at.0 farther at.2 at.3)))
      (elim (least_one_of now rest) [
        | inl e ↦ elim (lesser_one_of limit (value place)) [
          | inl k ↦ inl (e ∙ k)
          | inr k ↦ inr (in_over (λ c. listed (value c)) place to (least now rest) place (omega (arith, ints)) here
              (subst (λ x. IsIn x (listed (value place))) (sym e) k))
        ]
        | inr there ↦ (let at = over_at (λ c. listed (value c)) next to (least now rest) there in
            inr (in_over (λ c. listed (value c)) place to (least now rest) at.0 (omega (arith, ints, at.1, ahead)) at.2 at.3))
      ]))

  -- and at the end
  pub last : ((later : ℤ) → place ≤ℤ later → value later ≡ value place) →
      lesser limit (value place) ≡ least limit (over (λ c. listed (value c)) place to)
  last same =
      sym (least_is limit (lesser limit (value place)) (over (λ c. listed (value c)) place to)
      (lesser_below limit (value place))
      (λ v given. let at = over_at (λ c. listed (value c)) place to v given in
      lesser_below_it limit (value place) v (rw (same at.0 at.1) at at.3))
      (elim (lesser_one_of limit (value place)) [
        | inl k ↦ inl k
        | inr k ↦ inr (in_over (λ c. listed (value c)) place to (lesser limit (value place)) place (omega (arith, ints)) here k)
      ]))

-- ---- whether a stretch gives anything

any_in : {A : Type 0} (x : A) (xs : List A) → IsIn x xs → is_any xs ≡ true
any_in x [] h = absurd h
any_in x (y ∷ xs) h = refl

one_of_some : {A : Type 0} (value : Option A) → is_some value ≡ true → (v : A) × IsIn v (listed value)
one_of_some None h = absurd cc
one_of_some (Some v) h = (v, inl refl)

none_listed : {A : Type 0} (value : Option A) (v : A) → is_some value ≡ false → IsIn v (listed value) → ⊥
none_listed None v h there = there
none_listed (Some w) v h there = absurd cc

none_of_not_any : {A : Type 0} (xs : List A) → ((x : A) → IsIn x xs → ⊥) → is_any xs ≡ false
none_of_not_any [] h = refl
none_of_not_any (x ∷ xs) h = absurd (h x (inl refl))

same_any : {A : Type 0} (xs ys : List A) → ((x : A) → IsIn x xs → IsIn x ys) → ((y : A) → IsIn y ys → IsIn y xs) → is_any xs ≡ is_any ys
same_any [] ys there back = sym (none_of_not_any ys back)
same_any (x ∷ xs) ys there back = sym (any_in x ys (there x (inl refl)))

module _ {A : Type 0} (value : ℤ → Option A) (place to : ℤ) (here : place ≤ℤ to) where
  -- it gives something where its first centimetre does
  pub found : is_some (value place) ≡ true → is_any (over (λ c. listed (value c)) place to) ≡ true
  found some =
      let v = one_of_some (value place) some in
      any_in v.0 (over (λ c. listed (value c)) place to) (in_over (λ c. listed (value c)) place to v.0 place (omega (arith, ints)) here v.1)

  -- where it doesn't, what gives something lies beyond the next change
  pub skipped : (next : ℤ) → place <ℤ next → ((later : ℤ) → place ≤ℤ later → later <ℤ next → value later ≡ value place) →
      is_some (value place) ≡ false →
      is_any (over (λ c. listed (value c)) next to) ≡ is_any (over (λ c. listed (value c)) place to)
  skipped next ahead same none =
      same_any (over (λ c. listed (value c)) next to) (over (λ c. listed (value c)) place to)
      (λ v there. let at = over_at (λ c. listed (value c)) next to v there in
      in_over (λ c. listed (value c)) place to v at.0 (omega (arith, ints, at.1, ahead)) at.2 at.3)
      (λ v given. let at = over_at (λ c. listed (value c)) place to v given in
      by_lt_z at.0 next
      (λ (before : at.0 <ℤ next). absurd (none_listed (value place) v none (rw (same at.0 at.1 before) at at.3)))
      (λ (farther : next ≤ℤ at.0). in_over (λ c. listed (value c)) next to v at.0 farther at.2 at.3))

  -- and where it lasts, nothing does
  pub nowhere : ((later : ℤ) → place ≤ℤ later → value later ≡ value place) → is_some (value place) ≡ false →
      is_any (over (λ c. listed (value c)) place to) ≡ false
  nowhere same none =
      none_of_not_any (over (λ c. listed (value c)) place to)
      (λ v given. let at = over_at (λ c. listed (value c)) place to v given in
      none_listed (value place) v none (rw (same at.0 at.1) at at.3))
