-- Bits that are held in a word, and those of the bytes after it.
use Rattle.std.proofs.Common.{◌≡◌, ℕ, ◌+◌, ◌-◌, ◌*◌, ◌/◌, ◌%◌, ◌^◌, ◌<◌, ◌≤◌, Bool, List, ◌++◌, length, take, drop, sym, ap, ◌∙◌, arith, append_assoc, length-append}
use Rattle.std.proofs.lemmas.List.{take_at, drop_at, drop-drop}
use Rattle.bits.specs.Bits.{number_bits, bits_of, number}
use Rattle.bits.specs.Window.{window_bits}
use Rattle.bits.specs.declared.window.Window.{Window}
use Rattle.bits.proofs.Numbers.{length-number_bits, number_bits-zero, number_bits-join, number_bits-cut, number-number_bits}
use Rattle.bits.proofs.Bytes.{length-bits_of, bits_of-drop, past}

pub length-window : (w : Window) → length (window_bits w) ≡ w.held + 8 * length w.rest.now
length-window w = omega (arith, length-append (number_bits w.held w.word) (bits_of w.rest.now), length-number_bits w.held w.word, length-bits_of w.rest.now)

-- bits moved into the word
pub moved : (held k m word x : ℕ) (rest new : List Bool) → held ≤ m → x < 2 ^ k → number_bits k x ++ new ≡ rest → number_bits (held + k) (word % 2 ^ m * 2 ^ k + x) ++ new ≡ number_bits held word ++ rest
moved held k m word x rest new le lt e =
    ap (λ (t : List Bool). t ++ new) (number_bits-join held k m word x le lt) ∙ append_assoc (number_bits held word) (number_bits k x) new ∙ ap (λ (t : List Bool). number_bits held word ++ t) e

-- the first n bits of those that are held
pub taken : (n left word : ℕ) (bs : List Bool) → take n (number_bits (n + left) word ++ bs) ≡ number_bits n (word / 2 ^ left)
taken n left word bs =
    let long : length (number_bits n (word / 2 ^ left)) ≡ n = length-number_bits n (word / 2 ^ left) in
    rw (number_bits-cut n left word, append_assoc) (take_at (number_bits n (word / 2 ^ left)) (number_bits left word ++ bs) n long)

left_after : (n left word : ℕ) (bs : List Bool) → drop n (number_bits (n + left) word ++ bs) ≡ number_bits left word ++ bs
left_after n left word bs =
    let long : length (number_bits n (word / 2 ^ left)) ≡ n = length-number_bits n (word / 2 ^ left) in
    rw (number_bits-cut n left word, append_assoc) (drop_at (number_bits n (word / 2 ^ left)) (number_bits left word ++ bs) n long)

-- their number
pub taken_of : (n held word : ℕ) (bs : List Bool) → n ≤ held → number (take n (number_bits held word ++ bs)) ≡ word / 2 ^ (held - n) % 2 ^ n
taken_of n held word bs le =
    let e : held ≡ n + (held - n) = omega arith in
    ap (λ (h : ℕ). number (take n (number_bits h word ++ bs))) e ∙ ap number (taken n (held - n) word bs) ∙ number-number_bits n (word / 2 ^ (held - n))

-- what is left after them
pub left_of : (n held word : ℕ) (bs : List Bool) → n ≤ held → drop n (number_bits held word ++ bs) ≡ number_bits (held - n) word ++ bs
left_of n held word bs le =
    let e : held ≡ n + (held - n) = omega arith in
    ap (λ (h : ℕ). drop n (number_bits h word ++ bs)) e ∙ left_after n (held - n) word bs

-- past all that are held
past_held : (n held word : ℕ) (bs : List Bool) → held ≤ n → drop n (number_bits held word ++ bs) ≡ drop (n - held) bs
past_held n held word bs le =
    let e : n ≡ held + (n - held) = omega arith in
    let long : length (number_bits held word) ≡ held = length-number_bits held word in
    ap (λ (k : ℕ). drop k (number_bits held word ++ bs)) e ∙ sym (drop-drop (n - held) held (number_bits held word ++ bs)) ∙ ap (drop (n - held)) (drop_at (number_bits held word) bs held long)

-- past some bytes, and some bits of the next
pub skipped : (n held word : ℕ) (bs : List ℕ) → held ≤ n → drop ((n - held) % 8) (bits_of (take (length bs - (n - held) / 8) (drop ((n - held) / 8) bs))) ≡ drop n (number_bits held word ++ bits_of bs)
skipped n held word bs le =
    let e : 8 * ((n - held) / 8) + (n - held) % 8 ≡ n - held = omega arith in
    ap (λ (t : List ℕ). drop ((n - held) % 8) (bits_of t)) (past ((n - held) / 8) bs) ∙ ap (drop ((n - held) % 8)) (bits_of-drop ((n - held) / 8) bs) ∙ drop-drop ((n - held) % 8) (8 * ((n - held) / 8)) (bits_of bs) ∙ ap (λ (k : ℕ). drop k (bits_of bs)) e ∙ sym (past_held n held word (bits_of bs) le)

pub none_held : (word : ℕ) (bs : List Bool) → number_bits 0 word ++ bs ≡ bs
none_held word bs = ap (λ (t : List Bool). t ++ bs) (number_bits-zero word)

pub skipped_even : (n held word : ℕ) (bs : List ℕ) → held ≤ n → (n - held) % 8 ≡ 0 → bits_of (take (length bs - (n - held) / 8) (drop ((n - held) / 8) bs)) ≡ drop n (number_bits held word ++ bits_of bs)
skipped_even n held word bs le e =
    sym (ap (λ (k : ℕ). drop k (bits_of (take (length bs - (n - held) / 8) (drop ((n - held) / 8) bs)))) e) ∙ skipped n held word bs le
