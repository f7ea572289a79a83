-- The requests of a format, one after the other.
use Rattle.std.proofs.Common.{◌≡◌, ⊎_elim, ℕ, zero, suc, ◌+◌, ◌-◌, ◌<◌, ◌≤◌, ◌==◌, Bool, true, false, List, replicate, ◌∙◌, ap, arith}
use Rattle.std.specs.Prelude.{nat_lt, if◌then◌else◌}
use Rattle.std.proofs.lemmas.Bool.{cases_lt}
use Rattle.std.proofs.lemmas.Bool.Decides.{nat_tests}
use Rattle.blocks.specs.FirstSector.{sectors_of, first_sector}
use Rattle.blocks.specs.Layout.{written}
use Rattle.unit_calls.specs.Formatting.{FormatRequest, Writing, requested_at, requested_last, carried, after_first, FormatEmpties}

-- a request by its place
gate_requested : (slots index : ℕ) → index < slots → requested_at slots index ≡ Writing (sectors_of index) (replicate 512 0)
gate_requested slots index below =
    let less : nat_lt index slots ≡ true = grind (arith, nat_tests) in
    ap (λ (b : Bool). if b then Writing (sectors_of index) (replicate 512 0) else requested_last slots (index - slots)) less

after_gates : (slots k : ℕ) → requested_at slots (slots + k) ≡ requested_last slots k
after_gates slots k =
    let past : nat_lt (slots + k) slots ≡ false = grind (arith, nat_tests) in
    let place : slots + k - slots ≡ k = omega arith in
    ap (λ (b : Bool). if b then Writing (sectors_of (slots + k)) (replicate 512 0) else requested_last slots (slots + k - slots)) past
    ∙ ap (λ (n : ℕ). requested_last slots n) place

put_same : (at : ℕ) (bytes : List ℕ) (image : ℕ → List ℕ) → carried (Writing at bytes) image at ≡ bytes
put_same at bytes image =
    let same : (at == at) ≡ true = grind (arith, nat_tests) in
    ap (λ (b : Bool). if b then bytes else image at) same

put_other : (at s : ℕ) (bytes : List ℕ) (image : ℕ → List ℕ) → (s == at) ≡ false → carried (Writing at bytes) image s ≡ image s
put_other at s bytes image other = ap (λ (b : Bool). if b then bytes else image s) other

-- the gates of the slots below are zeros after as many requests
zeros_after : (slots below slot : ℕ) (image : ℕ → List ℕ) → below ≤ slots → slot < below → after_first slots image below (sectors_of slot) ≡ replicate 512 0
zeros_after slots zero slot image most less = absurd (omega (arith, less))
zeros_after slots (suc below) slot image most less =
    let requested : requested_at slots below ≡ Writing (sectors_of below) (replicate 512 0) = gate_requested slots below (omega (arith, most)) in
    let before : ℕ → List ℕ = after_first slots image below in
    ap (λ (a : FormatRequest). carried a before (sectors_of slot)) requested
    ∙ ⊎_elim
    (λ (lt : slot < below). put_other (sectors_of below) (sectors_of slot) (replicate 512 0) before (grind (arith, nat_tests)) ∙ zeros_after slots below slot image (omega (arith, most)) lt)
    (λ (ge : below ≤ slot).
    let same : slot ≡ below = omega (arith, ge, less) in
    ap (λ (n : ℕ). carried (Writing (sectors_of below) (replicate 512 0)) before (sectors_of n)) same
    ∙ put_same (sectors_of below) (replicate 512 0) before)
    (cases_lt slot below)

-- a request after the gates
last_following : (slots k s : ℕ) (image : ℕ → List ℕ) → after_first slots image (suc (slots + k)) s ≡ carried (requested_last slots k) (after_first slots image (slots + k)) s
last_following slots k s image = ap (λ (a : FormatRequest). carried a (after_first slots image (slots + k)) s) (after_gates slots k)

all_after : (slots s : ℕ) (image : ℕ → List ℕ) → after_first slots image (slots + 3) s
    ≡ carried (Writing 0 (written first_sector slots)) (after_first slots image (slots + 1)) s
all_after slots s image =
    let third : slots + 3 ≡ suc (slots + 2) = omega arith in
    let second : slots + 2 ≡ suc (slots + 1) = omega arith in
    ap (λ (n : ℕ). after_first slots image n s) third
    ∙ last_following slots 2 s image
    ∙ ap (λ (n : ℕ). after_first slots image n s) second
    ∙ last_following slots 1 s image

first_after : (slots s : ℕ) (image : ℕ → List ℕ) → after_first slots image (slots + 1) s ≡ after_first slots image slots s
first_after slots s image =
    let one : slots + 1 ≡ suc (slots + 0) = omega arith in
    let none : slots + 0 ≡ slots = omega arith in
    ap (λ (n : ℕ). after_first slots image n s) one
    ∙ last_following slots 0 s image
    ∙ ap (λ (n : ℕ). after_first slots image n s) none

pub format_empties : FormatEmpties
format_empties slots image = record {
  first = all_after slots 0 image ∙ put_same 0 (written first_sector slots) (after_first slots image (slots + 1));
  gates = λ slot below.
      all_after slots (sectors_of slot) image
      ∙ put_other 0 (sectors_of slot) (written first_sector slots) (after_first slots image (slots + 1)) (grind (arith, nat_tests))
      ∙ first_after slots (sectors_of slot) image
      ∙ zeros_after slots slots slot image (omega arith) below;
}
