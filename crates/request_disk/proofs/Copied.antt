-- What a request leaves that is carried out.
use Rattle.std.proofs.Common.{◌≡◌, ⊎_elim, ℕ, ◌+◌, ◌-◌, ◌*◌, ◌<◌, ◌≤◌, Bool, true, false, List, ◌++◌, length, take, drop, get_or, refl, sym, ◌∙◌, ap, arith, Option, Some, None, length-drop}
use Rattle.std.specs.Prelude.{if◌then◌else◌}
use Rattle.std.proofs.lemmas.Bool.{cases_lt}
use Rattle.std.proofs.lemmas.Bool.Decides.{nat_tests}
use Rattle.std.proofs.lemmas.Slice.{take-put_mid_below, drop-put_mid}
use Rattle.std.proofs.lemmas.List.{drop-drop, drop-take, take-take, length-take-le, take-append-le, drop-append-le}
use Rattle.std.proofs.lemmas.List.Sums.{fold_more}
use Rattle.std.proofs.Math.Seq.{drop-append-add}
use borrow.Rule.Slice.PartMut.{put_mid, post_of}
use Rattle.disk.specs.State.{sector_of}
use Rattle.disk.specs.declared.record.Call.{Call}
use Rattle.disk.specs.declared.record.Call.TheVariants.{Quiet, Synced, Written, Torn}
use Rattle.disk.specs.declared.record.Span.{Span}
use Rattle.request_disk.specs.Requests.{has_sector, found_next, found_in, reported_at}

outside : (span : Span) (s : ℕ) → (s < span.first) → has_sector span s ≡ false
outside span s below = grind (arith, nat_tests)

following : (span : Span) (s : ℕ) → span.first + span.sectors ≤ s → has_sector span s ≡ false
following span s above = grind (arith, nat_tests)

inside : (span : Span) (s : ℕ) → span.first ≤ s → s < span.first + span.sectors → has_sector span s ≡ true
inside span s from below = grind (arith, nat_tests)

-- sectors that were copied to their place
pub put_sectors : (start written ys : List ℕ) (span : Span) (to k : ℕ) → to ≡ 512 * span.first → k ≡ 512 * span.sectors
    → 512 * span.first + 512 * span.sectors ≤ length start → span.from + 512 * span.sectors ≤ length written
    → ys ≡ take k (drop span.from written) → (s : ℕ)
    → sector_of (put_mid to k start ys) s ≡ reported_at start written s (found_next s None (Written span))
put_sectors start written ys span to k here wide space there is s =
    let size : length ys ≡ k = ap length is ∙ length-take-le k (drop span.from written) (omega (arith, length-drop span.from written)) in
    let next : List ℕ = put_mid to k start ys in
    let T : Bool → List ℕ = λ b. reported_at start written s (if b then Some (span.from + 512 * (s - span.first)) else None) in
    ⊎_elim
    (λ (lt : s < span.first).
    sym (drop-take (512 * s) 512 next)
    ∙ ap (λ (l : List ℕ). drop (512 * s) l) (take-put_mid_below to k start ys (512 * s + 512) (omega arith) (omega arith))
    ∙ drop-take (512 * s) 512 start
    ∙ sym (ap T (outside span s lt)))
    (λ (ge : span.first ≤ s). ⊎_elim
    (λ (lt : s < span.first + span.sectors).
    let i : ℕ = s - span.first in
    let place : 512 * s ≡ to + 512 * i = omega arith in
    let rest : ℕ = k - 512 * i in
    let all : 512 * i + rest ≡ k = omega arith in
    let front : length (take to start) ≡ to = length-take-le to start (omega arith) in
    ap (λ (n : ℕ). take 512 (drop n next)) (place ∙ ap (λ (n : ℕ). n + 512 * i) (sym front))
    ∙ ap (λ (l : List ℕ). take 512 l) (drop-append-add (take to start) (ys ++ post_of to k start) (512 * i))
    ∙ ap (λ (l : List ℕ). take 512 l) (drop-append-le (512 * i) ys (post_of to k start) (omega (arith, size)))
    ∙ take-append-le 512 (drop (512 * i) ys) (post_of to k start) (omega (arith, length-drop (512 * i) ys, size))
    ∙ ap (λ (l : List ℕ). take 512 (drop (512 * i) l)) (is ∙ ap (λ (n : ℕ). take n (drop span.from written)) (sym all))
    ∙ ap (λ (l : List ℕ). take 512 l) (drop-take (512 * i) rest (drop span.from written))
    ∙ take-take 512 rest (drop (512 * i) (drop span.from written)) (omega arith)
    ∙ ap (λ (l : List ℕ). take 512 l) (drop-drop (512 * i) span.from written)
    ∙ sym (ap T (inside span s ge lt)))
    (λ (past : span.first + span.sectors ≤ s).
    ap (λ (l : List ℕ). take 512 l) (drop-put_mid to k start ys (512 * s) (omega arith) (omega arith) size)
    ∙ sym (ap T (following span s past)))
    (cases_lt s (span.first + span.sectors)))
    (cases_lt s span.first)

-- one request more is carried out
one_more : (b : Bool) (x s : ℕ) (start0 start written : List ℕ) (at : Option ℕ) → sector_of start s ≡ reported_at start0 written s at
    → reported_at start written s (if b then Some x else None) ≡ reported_at start0 written s (if b then Some x else at)
one_more true x s start0 start written at so = refl
one_more false x s start0 start written at so = so

pub carried_next : (s : ℕ) (start0 start written : List ℕ) (at : Option ℕ) (call : Call) → sector_of start s ≡ reported_at start0 written s at
    → reported_at start written s (found_next s None call) ≡ reported_at start0 written s (found_next s at call)
carried_next s start0 start written at Quiet so = so
carried_next s start0 start written at Synced so = so
carried_next s start0 start written at (Written span) so = one_more (has_sector span s) (span.from + 512 * (s - span.first)) s start0 start written at so
carried_next s start0 start written at (Torn span) so = so

pub found_more : (s : ℕ) (calls : List Call) (i : ℕ) (d : Call) → i < length calls
    → found_in s (take (i + 1) calls) ≡ found_next s (found_in s (take i calls)) (get_or calls i d)
found_more s calls i d below = fold_more (found_next s) None calls i d below

-- a sector of the first ones
pub front_sector : (bytes : List ℕ) (n s : ℕ) → s < n → sector_of (take (512 * n) bytes) s ≡ sector_of bytes s
front_sector bytes n s below =
    let rest : ℕ = 512 * n - 512 * s in
    let all : 512 * n ≡ 512 * s + rest = omega arith in
    ap (λ (m : ℕ). take 512 (drop (512 * s) (take m bytes))) all
    ∙ ap (λ (l : List ℕ). take 512 l) (drop-take (512 * s) rest bytes)
    ∙ take-take 512 rest (drop (512 * s) bytes) (omega arith)
