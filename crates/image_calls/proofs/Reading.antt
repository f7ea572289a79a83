-- The sectors of bytes that were copied out of others.
use Rattle.std.proofs.Common.{◌≡◌, ℕ, ◌+◌, ◌-◌, ◌*◌, ◌%◌, ◌<◌, ◌≤◌, List, take, drop, sym, ◌∙◌, ap, arith}
use Rattle.std.proofs.lemmas.List.{drop-drop, drop-take, take-take}
use Rattle.disk.specs.State.{sector_of}

pub copied_sectors : (image new : List ℕ) (first len : ℕ) → len % 512 ≡ 0 → new ≡ take len (drop (512 * first) image) → (i : ℕ) → 512 * i < len
    → sector_of image (first + i) ≡ sector_of new i
copied_sectors image new first len whole is i below =
    let from : List ℕ = drop (512 * first) image in
    let rest : ℕ = len - 512 * i in
    let all : len ≡ 512 * i + rest = omega (arith, below) in
    let enough : 512 ≤ rest = omega (arith, whole, below) in
    let place : 512 * first + 512 * i ≡ 512 * (first + i) = omega arith in
    sym (ap (λ (l : List ℕ). sector_of l i) is
    ∙ ap (λ (n : ℕ). take 512 (drop (512 * i) (take n from))) all
    ∙ ap (λ (l : List ℕ). take 512 l) (drop-take (512 * i) rest from)
    ∙ take-take 512 rest (drop (512 * i) from) enough
    ∙ ap (λ (l : List ℕ). take 512 l) (drop-drop (512 * i) (512 * first) image)
    ∙ ap (λ (n : ℕ). take 512 (drop n image)) place)
