-- The bits of bytes.
use Rattle.std.proofs.Common.{◌≡◌, ℕ, zero, suc, ◌+◌, ◌-◌, ◌*◌, ◌/◌, ◌%◌, ◌^◌, ◌<◌, ◌≤◌, Bool, List, [], ◌∷◌, ◌++◌, length, take, drop, get_or, refl, sym, ap, ◌∙◌, arith, append_assoc, length-append, length-drop}
use Rattle.std.proofs.lemmas.List.{take_all, drop_at, drop-drop}
use Rattle.std.proofs.Math.Seq.{drop-nil}
use Rattle.bits.specs.Bits.{number_bits, bits_of}
use Rattle.bits.proofs.Numbers.{length-number_bits, number_bits-low, number_bits-cut}

pub length-bits_of : (bytes : List ℕ) → length (bits_of bytes) ≡ 8 * length bytes
length-bits_of [] = refl
length-bits_of (b ∷ bs) = omega (arith, length-append (number_bits 8 b) (bits_of bs), length-number_bits 8 b, length-bits_of bs)

-- past whole bytes
pub bits_of-drop : (k : ℕ) (bs : List ℕ) → bits_of (drop k bs) ≡ drop (8 * k) (bits_of bs)
bits_of-drop zero bs = refl
bits_of-drop (suc k) [] = sym (drop-nil (8 * suc k))
bits_of-drop (suc k) (b ∷ bs) =
    let e : 8 * suc k ≡ 8 + 8 * k = omega arith in
    let first : drop 8 (number_bits 8 b ++ bits_of bs) ≡ bits_of bs = drop_at (number_bits 8 b) (bits_of bs) 8 (length-number_bits 8 b) in
    bits_of-drop k bs ∙ ap (drop (8 * k)) (sym first) ∙ drop-drop (8 * k) 8 (bits_of (b ∷ bs)) ∙ ap (λ (n : ℕ). drop n (bits_of (b ∷ bs))) (sym e)

-- the part of a slice from k on
pub past : (k : ℕ) (bs : List ℕ) → take (length bs - k) (drop k bs) ≡ drop k bs
past k bs = take_all (length bs - k) (drop k bs) (omega (arith, length-drop k bs))

pub byte_front : (bs : List ℕ) → 0 < length bs → number_bits 8 (get_or bs 0 0) ++ bits_of (drop 1 bs) ≡ bits_of bs
byte_front [] some = absurd (omega arith)
byte_front (x ∷ bs) some = refl

low_byte : (x d : ℕ) → x % 2 ^ 8 ≡ d → number_bits 8 x ≡ number_bits 8 d
low_byte x d e =
    let split : x ≡ x / 2 ^ 8 * 2 ^ 8 + d = omega (arith, e) in
    ap (number_bits 8) split ∙ number_bits-low 8 8 (x / 2 ^ 8) d (omega arith)

-- the number of four bytes, the first highest
pub four_bytes : (a b c d : ℕ) → b < 256 → c < 256 → d < 256 → number_bits 32 (a * 16777216 + b * 65536 + c * 256 + d) ≡ ((number_bits 8 a ++ number_bits 8 b) ++ number_bits 8 c) ++ number_bits 8 d
four_bytes a b c d lb lc ld =
    let h1 : (a * 16777216 + b * 65536 + c * 256 + d) / 2 ^ 8 ≡ a * 65536 + b * 256 + c = omega arith in
    let h2 : (a * 65536 + b * 256 + c) / 2 ^ 8 ≡ a * 256 + b = omega arith in
    let h3 : (a * 256 + b) / 2 ^ 8 ≡ a = omega arith in
    let l1 : number_bits 8 (a * 16777216 + b * 65536 + c * 256 + d) ≡ number_bits 8 d = low_byte _ d (omega arith) in
    let l2 : number_bits 8 (a * 65536 + b * 256 + c) ≡ number_bits 8 c = low_byte _ c (omega arith) in
    let l3 : number_bits 8 (a * 256 + b) ≡ number_bits 8 b = low_byte _ b (omega arith) in
    let one : number_bits 16 (a * 256 + b) ≡ number_bits 8 a ++ number_bits 8 b = number_bits-cut 8 8 (a * 256 + b) ∙ rw (h3, l3) refl in
    let two : number_bits 24 (a * 65536 + b * 256 + c) ≡ (number_bits 8 a ++ number_bits 8 b) ++ number_bits 8 c = number_bits-cut 16 8 (a * 65536 + b * 256 + c) ∙ rw (h2, l2, one) refl in
    number_bits-cut 24 8 (a * 16777216 + b * 65536 + c * 256 + d) ∙ rw (h1, l1, two) refl

pub word_front : (bs : List ℕ) → 4 ≤ length bs → ((i : ℕ) → get_or bs i 0 < 256) → number_bits 32 (get_or bs 0 0 * 16777216 + get_or bs 1 0 * 65536 + get_or bs 2 0 * 256 + get_or bs 3 0) ++ bits_of (drop 4 bs) ≡ bits_of bs
word_front (a ∷ b ∷ c ∷ d ∷ bs) some small =
    ap (λ (t : List Bool). t ++ bits_of bs) (four_bytes a b c d (small 1) (small 2) (small 3)) ∙ simp append_assoc
word_front [] some small = absurd (omega arith)
word_front (x ∷ []) some small = absurd (omega arith)
word_front (x ∷ y ∷ []) some small = absurd (omega arith)
word_front (x ∷ y ∷ z ∷ []) some small = absurd (omega arith)
