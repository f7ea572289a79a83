-- Balises in the order of their places, and those that a way leads over.
use Rattle.std.proofs.Common.{◌≡◌, ℕ, zero, suc, ◌-◌, ◌≤◌, ◌<◌, ℤ, pos, negsuc, ◌+ℤ◌, ◌≤ℤ◌, ◌<ℤ◌, int_lt, int_le, ltb, List, [], get_or, take, drop, Bool, true, false, not, ◌&&◌, ◌||◌, refl, sym, ◌∙◌, arith}
use Rattle.std.specs.List.{filter, All}
use Rattle.std.specs.List.Sorted.{IsNonDecreasingBy, IsStableByKey, IsPartitionedBy, ties}
use Rattle.std.specs.Ordering.{int_eq, nat_cmp, is_lt}
use Rattle.std.proofs.lemmas.Bool.{ltb-true}
use Rattle.std.proofs.lemmas.Int.{ints}
use Rattle.std.proofs.lemmas.Bool.Decides.{Decides-int_eq, nat_tests}
use Rattle.std.proofs.lemmas.List.Elements.{filter_agree, filter_passes, All-weaker}
use Rattle.simulator.proofs.Sifting.{none, between, joined}
use Rattle.simulator.specs.Passing.{passed, lies_at, AreUpTo}
use Rattle.simulator.specs.declared.balise.Balise.{Balise}

-- ---- on a way

abbrev pub is_ahead : ℤ → ℕ → ℕ → Bool
is_ahead from n at = int_lt from (pos at) && int_le (pos at) (from +ℤ pos n)

pub nothing_ahead : (from : ℤ) (at : ℕ) → is_ahead from 0 at ≡ false
nothing_ahead from at = grind (arith, ints)

pub one_more_ahead : (from : ℤ) (n at : ℕ) → is_ahead from (suc n) at ≡ (is_ahead from n at || int_eq (pos at) (from +ℤ pos (suc n)))
one_more_ahead from n at = grind (arith, ints, Decides-int_eq)

pub after_the_last : (from : ℤ) (n a b : ℕ) → int_eq (pos a) (from +ℤ pos (suc n)) ≡ true → a ≤ b → is_ahead from n b ≡ false
after_the_last from n a b h le = grind (arith, ints, Decides-int_eq)

-- in order: what is passed is what lies on the way
pub passed-in_order : (bs : List Balise) (from : ℤ) (n : ℕ) → IsNonDecreasingBy (λ b. b.at) bs → passed bs from n ≡ filter (λ b. is_ahead from n b.at) bs
unfolding passed
passed-in_order bs from zero up = sym (none (λ b. is_ahead from 0 b.at) bs (λ k d l. nothing_ahead from (get_or bs k d).at))
passed-in_order bs from (suc n) up =
    rw (passed-in_order bs from n up)
    (joined (λ b. b.at) (λ b. is_ahead from n b.at) (lies_at (from +ℤ pos (suc n))) (λ b. is_ahead from (suc n) b.at) bs up
    (λ x y h le. after_the_last from n x.at y.at h le) (λ x. one_more_ahead from n x.at))

-- ---- sorted, those of one place in the order that they had

same_place : (n a : ℕ) → int_eq (pos a) (pos n) ≡ (not (is_lt (nat_cmp n a)) && not (is_lt (nat_cmp a n)))
same_place n a = grind (arith, ints, nat_tests, Decides-int_eq)

pub same_at : (xs ys : List Balise) → IsStableByKey (λ b. b.at) nat_cmp xs ys → (z : ℤ) → filter (lies_at z) ys ≡ filter (lies_at z) xs
same_at xs ys stable (pos n) =
    let there : Balise = record { at = n; bytes = [] } in
    let lt = λ (x y : Balise). is_lt (nat_cmp x.at y.at) in
    let agree = filter_agree (lies_at (pos n)) (ties lt there) (λ b. same_place n b.at) in
    agree ys ∙ stable there ∙ sym (agree xs)
same_at xs ys stable (negsuc n) = none (lies_at (negsuc n)) ys (λ k d l. refl) ∙ sym (none (lies_at (negsuc n)) xs (λ k d l. refl))

pub passed-same : (xs ys : List Balise) → IsStableByKey (λ b. b.at) nat_cmp xs ys → (from : ℤ) (n : ℕ) → passed ys from n ≡ passed xs from n
unfolding passed
passed-same xs ys stable from zero = refl
passed-same xs ys stable from (suc n) = rw (passed-same xs ys stable from n, same_at xs ys stable (from +ℤ pos (suc n))) refl

-- ---- found by their places

pub parted : (bs : List Balise) (place : ℤ) → IsNonDecreasingBy (λ b. b.at) bs → IsPartitionedBy (λ b. int_le (pos b.at) place) bs
parted bs place up = λ i j d a l h. let rises : (get_or bs i d).at ≤ (get_or bs j d).at = up i j d a l in grind (arith, ints)

-- the way from a place p over n centimetres up to q leads over those that lie up to q and not up to p
pub rises : {bs : List Balise} {p q : ℤ} {i j : ℕ} → AreUpTo bs p i → AreUpTo bs q j → p ≤ℤ q → i ≤ j
rises {bs} {p} {q} {i} {j} first end ahead =
    let nowhere : Balise = record { at = 0; bytes = [] } in
    elim (ltb j i) as (λ v. ltb j i ≡ v → i ≤ j) [
      | true ↦ λ h.
          let below : j < i = ltb-true j i h in
          let low = first.before j nowhere below in
          let high = end.following j nowhere (omega arith) (omega (arith, below, first.inside)) in
          absurd (omega (arith, ints, low, high, ahead))
      | false ↦ λ h. grind (arith, nat_tests)
    ] refl

pub passed-between : {bs : List Balise} {p q : ℤ} {i j : ℕ} (from : ℤ) (n : ℕ) → AreUpTo bs p i → AreUpTo bs q j → p ≡ from → q ≡ (from +ℤ pos n)
    → IsNonDecreasingBy (λ b. b.at) bs → passed bs from n ≡ take (j - i) (drop i bs)
passed-between {bs} {p} {q} {i} {j} from n first end starts ends up =
    let le : i ≤ j = rises first end (omega (arith, ints, starts, ends)) in
    passed-in_order bs from n up
    ∙ between (λ b. is_ahead from n b.at) bs i (j - i)
    (λ k d a l. let here = first.before k d a in grind (arith, ints))
    (λ k d a b l. let low = first.following k d a l in let high = end.before k d (omega (arith, b, le)) in grind (arith, ints))
    (λ k d a l. let here = end.following k d (omega (arith, a, le)) l in grind (arith, ints))

abbrev pub IsAhead : ℤ → ℕ → Balise → Type 0
IsAhead from n b = (from <ℤ pos b.at) × (pos b.at ≤ℤ (from +ℤ pos n))

reported_ahead : (from : ℤ) (n : ℕ) (b : Balise) → is_ahead from n b.at ≡ true → IsAhead from n b
reported_ahead from n b h = (grind (arith, ints), grind (arith, ints))

pub all_ahead : (bs : List Balise) (from : ℤ) (n : ℕ) → IsNonDecreasingBy (λ b. b.at) bs → All (IsAhead from n) (passed bs from n)
all_ahead bs from n up =
    rw (passed-in_order bs from n up)
    (All-weaker (λ b. is_ahead from n b.at ≡ true) (IsAhead from n) (reported_ahead from n) (filter (λ b. is_ahead from n b.at) bs) (filter_passes (λ b. is_ahead from n b.at) bs))
