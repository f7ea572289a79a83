-- Bits that are written after those of whole bytes, in a word that is moved to the bytes once it holds four.
use Rattle.std.proofs.Common.{◌≡◌, ℕ, zero, suc, ◌+◌, ◌-◌, ◌*◌, ◌/◌, ◌%◌, ◌^◌, ◌<◌, ◌≤◌, Bool, true, false, nat_eq, List, [], ◌∷◌, ◌++◌, length, take, drop, replicate, refl, sym, ap, ◌∙◌, arith, append_assoc, length-append, length-take}
use Rattle.std.proofs.Math.Nat.{add-mul-mod_self_right, mod-lt, mul-le-mul_right, one-le-pow, pow-suc}
use Rattle.std.proofs.Math.Seq.{take-add, take-append-add}
use Rattle.std.proofs.lemmas.List.{append-nil, take_at, drop_at, drop-drop, take-append-drop, take-replicate}
use Rattle.std.proofs.lemmas.Nat.{div-add-mod', pow-add, pow_pos, shl_whole}
use Rattle.std.proofs.lemmas.Nat.Bits.{bit_at-zero, bit_at_lowest, bit_at_cat_high}
use Rattle.std.specs.Int.{bit_at, from_bool, bytes_high_first}
use Rattle.bits.specs.Bits.{bit_of, bits_of, number_bits, number}
use Rattle.bits.proofs.Numbers.{length-number_bits, number_bits-join, number_bits-cut, number_bits-low}
use Rattle.bits.proofs.Bytes.{length-bits_of, four_bytes}

-- ---- bytes

pub bits_of-append : (xs ys : List ℕ) → bits_of (xs ++ ys) ≡ bits_of xs ++ bits_of ys
bits_of-append [] ys = refl
bits_of-append (x ∷ xs) ys = ap (λ (t : List Bool). number_bits 8 x ++ t) (bits_of-append xs ys) ∙ sym (append_assoc (number_bits 8 x) (bits_of xs) (bits_of ys))

bits_of-take : (k : ℕ) (bs : List ℕ) → k ≤ length bs → bits_of (take k bs) ≡ take (8 * k) (bits_of bs)
bits_of-take k bs le =
    let long : length (bits_of (take k bs)) ≡ 8 * k = omega (arith, length-bits_of (take k bs), length-take k bs) in
    let parts : bits_of bs ≡ bits_of (take k bs) ++ bits_of (drop k bs) = ap bits_of (sym (take-append-drop k bs)) ∙ bits_of-append (take k bs) (drop k bs) in
    sym (ap (take (8 * k)) parts ∙ take_at (bits_of (take k bs)) (bits_of (drop k bs)) (8 * k) long)

pub word_bytes : (w : ℕ) → w < 2 ^ 32 → bits_of (bytes_high_first 4 w) ≡ number_bits 32 w
word_bytes w lt =
    let whole : w / 16777216 % 256 * 16777216 + w / 65536 % 256 * 65536 + w / 256 % 256 * 256 + w % 256 ≡ w = omega arith in
    let four = four_bytes (w / 16777216 % 256) (w / 65536 % 256) (w / 256 % 256) (w % 256) (omega arith) (omega arith) (omega arith) in
    sym (ap (number_bits 32) (sym whole) ∙ four ∙ simp (append_assoc, append-nil))

-- ---- a word

-- what a shift keeps of a word
spread : (a b c d : ℕ) → (a * b + c) * d ≡ c * d + a * (b * d)
spread a b c d = grind arith

kept : (n m word : ℕ) → m + n ≡ 64 → word * 2 ^ n % 2 ^ 64 ≡ word % 2 ^ m * 2 ^ n
kept n m word e =
    let high : ℕ = word / 2 ^ m in
    let low : ℕ = word % 2 ^ m in
    let all : 2 ^ m * 2 ^ n ≡ 2 ^ 64 = sym (pow-add 2 m n) ∙ ap (λ (k : ℕ). 2 ^ k) e in
    let parts : word * 2 ^ n ≡ low * 2 ^ n + high * 2 ^ 64 =
    ap (λ (x : ℕ). x * 2 ^ n) (sym (div-add-mod' word (2 ^ m))) ∙ spread high (2 ^ m) low (2 ^ n) ∙ ap (λ (x : ℕ). low * 2 ^ n + high * x) all in
    ap (λ (x : ℕ). x % 2 ^ 64) parts ∙ add-mul-mod_self_right (low * 2 ^ n) high (2 ^ 64) ∙ shl_whole low m n 64 (mod-lt word (pow_pos m)) (omega (arith, e))

-- n more bits after those that a word holds
pub joined : (front old : List Bool) (held n word v : ℕ) → held ≤ 32 → n ≤ 32 → v < 2 ^ n → front ++ number_bits held word ≡ old
    → front ++ number_bits (held + n) (word * 2 ^ n % 2 ^ 64 + v) ≡ old ++ number_bits n v
joined front old held n word v few le lt was =
    ap (λ (x : ℕ). front ++ number_bits (held + n) (x + v)) (kept n (64 - n) word (omega arith)) ∙ ap (λ (t : List Bool). front ++ t) (number_bits-join held n (64 - n) word v (omega arith) lt)
    ∙ sym (append_assoc front (number_bits held word) (number_bits n v)) ∙ ap (λ (t : List Bool). t ++ number_bits n v) was

cat_fits : (a p q v : ℕ) → a < q → v < p → q * p ≡ 2 ^ 64 → a * p + v < 2 ^ 64
cat_fits a p q v la lv e =
    let above : (a + 1) * p ≤ q * p = mul-le-mul_right p (omega arith) in
    omega (arith, above, e)

pub joined_fits : (n word v : ℕ) → n ≤ 32 → v < 2 ^ n → word * 2 ^ n % 2 ^ 64 + v < 2 ^ 64
joined_fits n word v le lt =
    let m : ℕ = 64 - n in
    let e : m + n ≡ 64 = omega arith in
    let all : 2 ^ m * 2 ^ n ≡ 2 ^ 64 = sym (pow-add 2 m n) ∙ ap (λ (k : ℕ). 2 ^ k) e in
    omega (arith, kept n m word e, cat_fits (word % 2 ^ m) (2 ^ n) (2 ^ m) v (mod-lt word (pow_pos m)) lt all)

low_word : (n w : ℕ) → n ≤ 32 → number_bits n (w % 2 ^ 32) ≡ number_bits n w
low_word n w le =
    let parts : w ≡ w / 2 ^ 32 * 2 ^ 32 + w % 2 ^ 32 = omega arith in
    sym (ap (number_bits n) parts ∙ number_bits-low n 32 (w / 2 ^ 32) (w % 2 ^ 32) le)

-- the upper four bytes are moved
pub moved_out : (front grown : List Bool) (held left word : ℕ) → held ≡ 32 + left → grown ≡ front ++ number_bits 32 (word / 2 ^ left % 2 ^ 32)
    → grown ++ number_bits left word ≡ front ++ number_bits held word
moved_out front grown held left word e more =
    ap (λ (t : List Bool). t ++ number_bits left word) (more ∙ ap (λ (t : List Bool). front ++ t) (low_word 32 (word / 2 ^ left) (omega arith)))
    ∙ append_assoc front (number_bits 32 (word / 2 ^ left)) (number_bits left word)
    ∙ ap (λ (t : List Bool). front ++ t) (sym (ap (λ (h : ℕ). number_bits h word) e ∙ number_bits-cut 32 left word))

-- a number of more than 32 bits, in two parts
pub two_parts : (n v : ℕ) (old one two : List Bool) → 32 < n → one ≡ old ++ number_bits (n - 32) (v / 2 ^ 32) → two ≡ one ++ number_bits 32 (v % 2 ^ 32) → two ≡ old ++ number_bits n v
two_parts n v old one two lt a b =
    let e : n ≡ n - 32 + 32 = omega arith in
    let cut : number_bits n v ≡ number_bits (n - 32) (v / 2 ^ 32) ++ number_bits 32 v = ap (λ (k : ℕ). number_bits k v) e ∙ number_bits-cut (n - 32) 32 v in
    b ∙ ap (λ (t : List Bool). t ++ number_bits 32 (v % 2 ^ 32)) a ∙ append_assoc old (number_bits (n - 32) (v / 2 ^ 32)) (number_bits 32 (v % 2 ^ 32))
    ∙ ap (λ (t : List Bool). old ++ (number_bits (n - 32) (v / 2 ^ 32) ++ t)) (low_word 32 v (omega arith)) ∙ ap (λ (t : List Bool). old ++ t) (sym cut)

pub upper_fits : (n v : ℕ) → 32 < n → v < 2 ^ n → v / 2 ^ 32 < 2 ^ (n - 32)
upper_fits n v lt fits =
    let e : n ≡ n - 32 + 32 = omega arith in
    let p : 2 ^ n ≡ 2 ^ (n - 32) * 2 ^ 32 = ap (λ (m : ℕ). 2 ^ m) e ∙ pow-add 2 (n - 32) 32 in
    omega (arith, p)

pub grown : (old : List Bool) (n v : ℕ) → length (old ++ number_bits n v) ≡ length old + n
grown old n v = omega (arith, length-append old (number_bits n v), length-number_bits n v)

pub length-written : (bytes : List ℕ) (held word : ℕ) → length (bits_of bytes ++ number_bits held word) ≡ 8 * length bytes + held
length-written bytes held word = omega (arith, length-append (bits_of bytes) (number_bits held word), length-bits_of bytes, length-number_bits held word)

-- ---- the bytes of what is held

number_bits-none : (n : ℕ) → number_bits n 0 ≡ replicate n false
unfolding number_bits
number_bits-none zero = refl
number_bits-none (suc n) =
    let head : bit_of 0 n ≡ false = ap (λ (x : ℕ). nat_eq x 1) (bit_at-zero n) in
    rw (head, number_bits-none n) refl

take_into : (xs ys : List Bool) (n m : ℕ) → length xs ≡ m → m ≤ n → take n (xs ++ ys) ≡ xs ++ take (n - m) ys
take_into xs ys n m long le =
    let e : n ≡ length xs + (n - m) = omega arith in
    ap (λ (k : ℕ). take k (xs ++ ys)) e ∙ take-append-add xs ys (n - m)

pub padded : (held k word : ℕ) → held < 32 → held ≤ 8 * k → k ≤ 4
    → bits_of (take k (bytes_high_first 4 (word % 2 ^ 32 * 2 ^ (32 - held) % 2 ^ 64 % 2 ^ 32))) ≡ number_bits held word ++ replicate (8 * k - held) false
padded held k word lt le few =
    let x = word % 2 ^ 32 * 2 ^ (32 - held) in
    let e : 32 ≡ held + (32 - held) = omega arith in
    let last : 8 * k ≡ held + (8 * k - held) = omega arith in
    let sum : x ≡ x + 0 = omega arith in
    let whole : x % 2 ^ 64 ≡ x = shl_whole (word % 2 ^ 32) 32 (32 - held) 64 (omega arith) (omega arith) in
    let long : length (number_bits held word) ≡ held = length-number_bits held word in
    let bits : number_bits 32 (x % 2 ^ 64 % 2 ^ 32) ≡ number_bits held word ++ replicate (32 - held) false =
    low_word 32 (x % 2 ^ 64) (omega arith) ∙ ap (number_bits 32) (whole ∙ sum) ∙ ap (λ (h : ℕ). number_bits h (x + 0)) e
    ∙ number_bits-join held (32 - held) 32 word 0 (omega arith) (one-le-pow (32 - held) 2 (omega arith)) ∙ ap (λ (t : List Bool). number_bits held word ++ t) (number_bits-none (32 - held)) in
    bits_of-take k (bytes_high_first 4 (x % 2 ^ 64 % 2 ^ 32)) (omega arith) ∙ ap (take (8 * k)) (word_bytes (x % 2 ^ 64 % 2 ^ 32) (omega arith) ∙ bits)
    ∙ take_into (number_bits held word) (replicate (32 - held) false) (8 * k) held long le
    ∙ ap (λ (t : List Bool). number_bits held word ++ t) (take-replicate (8 * k - held) (32 - held) false (omega arith))

-- ---- bits that are read and written

pub number-lt : (bs : List Bool) → number bs < 2 ^ length bs
number-lt [] = omega arith
number-lt (true ∷ bs) = omega (arith, number-lt bs, pow-suc 2 (length bs))
number-lt (false ∷ bs) = omega (arith, number-lt bs, pow-suc 2 (length bs))

first_back : (b : Bool) (bs : List Bool) → bit_of (from_bool b * 2 ^ length bs + number bs) (length bs) ≡ b
first_back true bs =
    let up : bit_at (1 * 2 ^ length bs + number bs) (length bs) ≡ bit_at 1 (length bs - length bs) = bit_at_cat_high 1 (length bs) (number bs) (length bs) (number-lt bs) (omega arith) in
    let none : length bs - length bs ≡ 0 = omega arith in
    ap (λ (x : ℕ). nat_eq x 1) (up ∙ ap (bit_at 1) none ∙ bit_at_lowest 1)
first_back false bs =
    let up : bit_at (0 * 2 ^ length bs + number bs) (length bs) ≡ bit_at 0 (length bs - length bs) = bit_at_cat_high 0 (length bs) (number bs) (length bs) (number-lt bs) (omega arith) in
    ap (λ (x : ℕ). nat_eq x 1) (up ∙ bit_at-zero (length bs - length bs))

pub bits-number : (bs : List Bool) → number_bits (length bs) (number bs) ≡ bs
unfolding number_bits
bits-number [] = refl
bits-number (b ∷ bs) = rw (first_back b bs, number_bits-low (length bs) (length bs) (from_bool b) (number bs) (omega arith), bits-number bs) refl

-- ---- two parts written over a list

pub written_over : (a b out one two : List ℕ) (k m : ℕ) → k ≡ length a → one ≡ take 0 out ++ a ++ drop (0 + length a) out → two ≡ take k one ++ b ++ drop (k + m) one
    → two ≡ (a ++ b) ++ drop (k + m) out
written_over a b out one two k m ea p q =
    let front : take k one ≡ a = ap (take k) p ∙ take_at a (drop (0 + length a) out) k (sym ea) in
    let following : drop k one ≡ drop k out = ap (drop k) p ∙ drop_at a (drop (0 + length a) out) k (sym ea) ∙ ap (λ (n : ℕ). drop n out) (omega arith) in
    let rest : drop (k + m) one ≡ drop (k + m) out = sym (drop-drop m k one) ∙ ap (drop m) following ∙ drop-drop m k out in
    q ∙ ap (λ (t : List ℕ). (t ++ b) ++ drop (k + m) one) front ∙ ap (λ (t : List ℕ). (a ++ b) ++ t) rest

-- the first n bits, through their number
pub copied : (n v : ℕ) (bits old new : List Bool) → n ≤ length bits → v ≡ number (take n bits) → new ≡ old ++ number_bits n v → new ≡ old ++ take n bits
copied n v bits old new le e wrote =
    let long : n ≡ length (take n bits) = omega (arith, length-take n bits) in
    wrote ∙ ap (λ (x : ℕ). old ++ number_bits n x) e ∙ ap (λ (k : ℕ). old ++ number_bits k (number (take n bits))) long ∙ ap (λ (t : List Bool). old ++ t) (bits-number (take n bits))

-- n bits after k that were copied
pub copied_more : (old all bits now new : List Bool) (k n m : ℕ) → k + n ≡ m → now ≡ old ++ take k all → bits ≡ drop k all → new ≡ now ++ take n bits → new ≡ old ++ take m all
copied_more old all bits now new k n m e so_far left more =
    more ∙ ap (λ (t : List Bool). t ++ take n bits) so_far ∙ append_assoc old (take k all) (take n bits) ∙ ap (λ (t : List Bool). old ++ (take k all ++ take n t)) left
    ∙ ap (λ (t : List Bool). old ++ t) (sym (take-add k n all)) ∙ ap (λ (j : ℕ). old ++ take j all) e

-- the whole bytes, and those of what is held
pub both_parts : (bytes last out : List ℕ) (old : List Bool) (held word more whole : ℕ) → whole ≡ length bytes → more ≡ length last → bits_of bytes ++ number_bits held word ≡ old
    → bits_of last ≡ number_bits held word ++ replicate (8 * more - held) false
    → bits_of (take (whole + more) ((bytes ++ last) ++ out)) ≡ old ++ replicate (8 * (whole + more) - length old) false
both_parts bytes last out old held word more whole eb el was tail =
    let long : length (bytes ++ last) ≡ whole + more = omega (arith, length-append bytes last) in
    let all : length old ≡ 8 * whole + held = sym (ap length was) ∙ length-written bytes held word ∙ omega arith in
    let spare : 8 * more - held ≡ 8 * (whole + more) - length old = omega arith in
    ap bits_of (take_at (bytes ++ last) out (whole + more) long) ∙ bits_of-append bytes last ∙ ap (λ (t : List Bool). bits_of bytes ++ t) tail
    ∙ sym (append_assoc (bits_of bytes) (number_bits held word) (replicate (8 * more - held) false)) ∙ ap (λ (t : List Bool). t ++ replicate (8 * more - held) false) was
    ∙ ap (λ (n : ℕ). old ++ replicate n false) spare
