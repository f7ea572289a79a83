-- Numbers as bits: cut, joined and read back.
use Rattle.std.proofs.Common.{◌≡◌, ℕ, zero, suc, ◌+◌, ◌-◌, ◌*◌, ◌/◌, ◌%◌, ◌^◌, ◌<◌, ◌≤◌, Bool, nat_eq, List, [], ◌∷◌, ◌++◌, length, take, drop, refl, sym, ap, ◌∙◌, arith, length-append, length-take, length-drop}
use Rattle.std.proofs.Math.Nat.{mod-eq_of_lt}
use Rattle.std.proofs.Math.Pow.{shr-shr}
use Rattle.std.proofs.Math.Seq.{take-add}
use Rattle.std.proofs.lemmas.Nat.{div-add-mod', mod-pow-add, pow-add}
use Rattle.std.proofs.lemmas.Nat.Bits.{bit_at_cat_low, bit_at_cat_high}
use Rattle.std.specs.Int.{bit_at, from_bool}
use Rattle.bits.specs.Bits.{bit_of, number_bits, number}

pub length-number_bits : (n v : ℕ) → length (number_bits n v) ≡ n
unfolding number_bits
length-number_bits zero v = refl
length-number_bits (suc n) v = ap suc (length-number_bits n v)

pub number_bits-zero : (v : ℕ) → number_bits 0 v ≡ []
unfolding number_bits
number_bits-zero v = refl

-- ---- cut and joined

-- the low bits of a remainder
low_bit : (v m i : ℕ) → i < m → bit_of (v % 2 ^ m) i ≡ bit_of v i
low_bit v m i lt = ap (λ (x : ℕ). nat_eq x 1) (sym (bit_at_cat_low (v / 2 ^ m) m (v % 2 ^ m) i lt) ∙ ap (λ (x : ℕ). bit_at x i) (div-add-mod' v (2 ^ m)))

-- what stands above the lowest bits doesn't matter to them
pub number_bits-low : (n k u x : ℕ) → n ≤ k → number_bits n (u * 2 ^ k + x) ≡ number_bits n x
unfolding number_bits
number_bits-low zero k u x le = refl
number_bits-low (suc n) k u x le =
    let head : bit_of (u * 2 ^ k + x) n ≡ bit_of x n = ap (λ (y : ℕ). nat_eq y 1) (bit_at_cat_low u k x n (omega arith)) in
    rw (head, number_bits-low n k u x (omega arith)) refl

-- a number with k bits put after it, in a word that keeps its lowest m
pub number_bits-join : (n k m v x : ℕ) → n ≤ m → x < 2 ^ k → number_bits (n + k) (v % 2 ^ m * 2 ^ k + x) ≡ number_bits n v ++ number_bits k x
unfolding number_bits
number_bits-join zero k m v x le lt =
    let e : 0 + k ≡ k = omega arith in
    rw e (number_bits-low k k (v % 2 ^ m) x (omega arith))
number_bits-join (suc n) k m v x le lt =
    let e : suc n + k ≡ suc (n + k) = omega arith in
    let back : n + k - k ≡ n = omega arith in
    let up : bit_at (v % 2 ^ m * 2 ^ k + x) (n + k) ≡ bit_at (v % 2 ^ m) (n + k - k) = bit_at_cat_high (v % 2 ^ m) k x (n + k) lt (omega arith) in
    let head : bit_of (v % 2 ^ m * 2 ^ k + x) (n + k) ≡ bit_of v n = ap (λ (y : ℕ). nat_eq y 1) (up ∙ ap (bit_at (v % 2 ^ m)) back) ∙ low_bit v m n (omega arith) in
    rw (e, head, number_bits-join n k m v x (omega arith) lt) refl

-- a number cut in two
pub number_bits-cut : (n k v : ℕ) → number_bits (n + k) v ≡ number_bits n (v / 2 ^ k) ++ number_bits k v
unfolding number_bits
number_bits-cut zero k v = let e : 0 + k ≡ k = omega arith in rw e refl
number_bits-cut (suc n) k v =
    let e : suc n + k ≡ suc (n + k) = omega arith in
    let swap : k + n ≡ n + k = omega arith in
    let head : bit_of v (n + k) ≡ bit_of (v / 2 ^ k) n = ap (λ (x : ℕ). nat_eq (x % 2) 1) (sym (shr-shr v k n ∙ ap (λ (j : ℕ). v / 2 ^ j) swap)) in
    rw (e, head, number_bits-cut n k v) refl

-- ---- read back

digit_back : (x : ℕ) → x < 2 → from_bool (nat_eq x 1) ≡ x
digit_back zero lt = refl
digit_back (suc zero) lt = refl
digit_back (suc (suc x)) lt = absurd (omega arith)

mod_suc : (n v : ℕ) → v % 2 ^ suc n ≡ (v / 2 ^ n % 2) * 2 ^ n + v % 2 ^ n
mod_suc n v = let e : 1 + n ≡ suc n = omega arith in rw e at (mod-pow-add v 1 n)

pub number-number_bits : (n v : ℕ) → number (number_bits n v) ≡ v % 2 ^ n
unfolding number_bits
number-number_bits zero v = omega arith
number-number_bits (suc n) v =
    let digit : from_bool (bit_of v n) ≡ v / 2 ^ n % 2 = digit_back (v / 2 ^ n % 2) (omega arith) in
    rw (length-number_bits n v, number-number_bits n v, digit) (sym (mod_suc n v))

-- a number that fits is the one that its bits spell
pub number-of_bits : (n v : ℕ) → v < 2 ^ n → number (number_bits n v) ≡ v
number-of_bits n v lt = number-number_bits n v ∙ mod-eq_of_lt lt

pub number-append : (xs ys : List Bool) → number (xs ++ ys) ≡ number xs * 2 ^ length ys + number ys
number-append [] ys = omega arith
number-append (x ∷ xs) ys =
    let weight : 2 ^ length (xs ++ ys) ≡ 2 ^ length xs * 2 ^ length ys = ap (λ (n : ℕ). 2 ^ n) (length-append xs ys) ∙ pow-add 2 (length xs) (length ys) in
    rw (weight, number-append xs ys) (grind arith)

-- the number of a front in two parts
pub number-parts : (a b : ℕ) (xs : List Bool) → a + b ≤ length xs → number (take (a + b) xs) ≡ number (take a xs) * 2 ^ b + number (take b (drop a xs))
number-parts a b xs le =
    let long : length (take b (drop a xs)) ≡ b = omega (arith, length-take b (drop a xs), length-drop a xs) in
    ap number (take-add a b xs) ∙ number-append (take a xs) (take b (drop a xs)) ∙ ap (λ (n : ℕ). number (take a xs) * 2 ^ n + number (take b (drop a xs))) long

pub joined_lt : (k n a b : ℕ) → n ≡ k + 32 → a < 2 ^ k → b < 2 ^ 32 → a * 4294967296 + b < 2 ^ n
joined_lt k n a b e la lb =
    let p : 2 ^ n ≡ 2 ^ k * 2 ^ 32 = ap (λ (m : ℕ). 2 ^ m) e ∙ pow-add 2 k 32 in
    omega (arith, p, la, lb)
