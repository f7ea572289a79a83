-- The greatest number that passes a test.
use Rattle.std.proofs.Common.{◌≡◌, ℕ, zero, suc, ◌<◌, ◌≤◌, Bool, true, false, cond, refl, ◌⊎◌, inl, inr, ap, sym, ◌∙◌, arith}
use Rattle.std.proofs.Math.Nat.{eq-or-lt_of_le}
use Rattle.std.specs.Prelude.{◌&&◌}
use Rattle.braking.specs.Braking.{greatest}

-- what passes is found where nothing above it does
pub greatest_is : (test : ℕ → Bool) (m n : ℕ) → m ≤ n → (m ≡ 0) ⊎ (test m ≡ true) →
    ((k : ℕ) → m < k → k ≤ n → test k ≡ false) → greatest test n ≡ m
unfolding greatest
greatest_is test m zero below here above = omega arith
greatest_is test m (suc n) below here above =
    let lower : m ≤ n → greatest test (suc n) ≡ m = λ h.
    rw (above (suc n) (omega arith) (omega arith)) (greatest_is test m n h here (λ k a b. above k a (omega arith))) in
    let same : suc n ≤ m → greatest test (suc n) ≡ m = λ h.
    let e : m ≡ suc n = omega arith in
    elim here [ inl z ↦ absurd (omega arith) | inr t ↦ rw (sym (ap test e) ∙ t) (sym e) ] in
    elim (eq-or-lt_of_le below) [ inl e ↦ same (omega arith) | inr l ↦ lower (omega arith) ]

-- tests that agree up to a number
greatest_same : (p q : ℕ → Bool) (n : ℕ) → ((k : ℕ) → k ≤ n → p k ≡ q k) → greatest p n ≡ greatest q n
unfolding greatest
greatest_same p q zero h = refl
greatest_same p q (suc n) h =
    let here = h (suc n) (omega arith) in
    let rest = greatest_same p q n (λ k a. h k (omega arith)) in
    λ i. cond (here i) (suc n) (rest i)

pub greatest_within : (test : ℕ → Bool) (n : ℕ) → greatest test n ≤ n
unfolding greatest
greatest_within test zero = omega arith
greatest_within test (suc n) =
    let cases : (b : Bool) → cond b (suc n) (greatest test n) ≤ suc n = elim [
      | true ↦ omega arith
      | false ↦ omega (arith, greatest_within test n)
    ] in
    cases (test (suc n))

pub greatest_all : (n : ℕ) → greatest (λ k. true) n ≡ n
unfolding greatest
greatest_all zero = refl
greatest_all (suc n) = refl

-- what passes two tests, of which the first is passed below each number that passes it, is found by one after the other
pub greatest_both : (p q : ℕ → Bool) (n : ℕ) → ((v w : ℕ) → w ≤ v → p v ≡ true → p w ≡ true) →
    greatest (λ k. p k && q k) n ≡ greatest q (greatest p n)
unfolding greatest
greatest_both p q zero lower = refl
greatest_both p q (suc n) lower =
    let joint : ℕ → Bool = λ (k : ℕ). p k && q k in
    let same : p (suc n) ≡ true → greatest joint n ≡ greatest q n = λ e. greatest_same joint q n (λ k a. rw (lower (suc n) k (omega arith) e)) in
    let cases : (b : Bool) → p (suc n) ≡ b → cond (b && q (suc n)) (suc n) (greatest joint n) ≡ greatest q (cond b (suc n) (greatest p n)) =
    elim [
      | true ↦ λ e. (rw (same e))
      | false ↦ λ e. greatest_both p q n lower
    ] in
    cases (p (suc n)) refl
