-- Sectors that are copied one by one.
use Rattle.std.proofs.Common.{◌≡◌, ⊎_elim, ℕ, ◌+◌, ◌*◌, ◌<◌, ◌≤◌, List, length, take, drop, sym, ◌∙◌, ap, arith}
use Rattle.std.proofs.lemmas.Bool.{cases_lt}
use Rattle.std.proofs.lemmas.Slice.{take-put_mid_below, take-put_mid}
use Rattle.std.proofs.lemmas.List.{drop_at, drop-take, length-take-le}
use borrow.Rule.Slice.PartMut.{put_mid}
use Rattle.disk.specs.State.{sector_of}

-- one sector more is copied
pub copied_more : (out bytes : List ℕ) (i k : ℕ) (content : ℕ → List ℕ) → k ≡ 512 → length bytes ≡ 512 → 512 * i + 512 ≤ length out → ((j : ℕ) → j < i → sector_of out j ≡ content j) → bytes ≡ content i
    → (j : ℕ) → j < i + 1 → sector_of (put_mid (512 * i) k out bytes) j ≡ content j
copied_more out bytes i k content width size space so_far here j below =
    let next : List ℕ = put_mid (512 * i) k out bytes in
    ⊎_elim
    (λ (lt : j < i).
    sym (drop-take (512 * j) 512 next)
    ∙ ap (λ (l : List ℕ). drop (512 * j) l) (take-put_mid_below (512 * i) k out bytes (512 * j + 512) (omega arith) (omega arith))
    ∙ drop-take (512 * j) 512 out
    ∙ so_far j lt)
    (λ (ge : i ≤ j).
    let same : j ≡ i = omega arith in
    ap (λ (n : ℕ). take 512 (drop (512 * n) next)) same
    ∙ sym (drop-take (512 * i) 512 next)
    ∙ ap (λ (l : List ℕ). drop (512 * i) l) (take-put_mid (512 * i) k out bytes (512 * i + 512) (omega arith) (omega arith))
    ∙ drop_at (take (512 * i) out) bytes (512 * i) (length-take-le (512 * i) out (omega arith))
    ∙ here ∙ ap content (sym same))
    (cases_lt j i)
