-- What a medium holds after requests, sector by sector.
use Rattle.std.proofs.Common.{◌≡◌, ℕ, ◌+◌, ◌-◌, ◌*◌, ◌<◌, ◌==◌, Bool, true, false, List, [], ◌∷◌, ◌++◌, length, take, drop, refl, ◌∙◌, ap, arith, length-append, length-drop, Option, Some, None}
use Rattle.std.specs.Prelude.{fold, All, if◌then◌else◌}
use Rattle.std.proofs.lemmas.Bool.Decides.{nat_tests}
use borrow.Rule.Slice.PartMut.{put_mid, put_same}
use Rattle.std.specs.List.{AllByRecursion}
use Rattle.std.proofs.lemmas.List.{length-take-le, take_all}
use Rattle.std.proofs.lemmas.List.Elements.{recursion_from_All}
use Rattle.disk.specs.State.{sector_of}
use Rattle.disk.specs.Record.{IsWithin, bytes_at, trace_of}
use Rattle.disk.specs.declared.record.Call.{Call}
use Rattle.disk.specs.declared.record.Span.{Span}
use Rattle.disk.specs.declared.record.Call.TheVariants.{Quiet, Synced, Written, Torn}
use Rattle.request_disk.specs.Requests.{has_sector, found_next, found_in, reported_at}
use Rattle.request_disk.proofs.Copied.{put_sectors, carried_next as reported_next}
use Rattle.request_disk.proofs.Found.{bytes_now}
use Rattle.request_disk.specs.Medium.{with_sectors, carried_next, carried}

-- it keeps its size
next_size : (sectors : ℕ) (start written : List ℕ) (call : Call) → IsWithin sectors (length written) call → length start ≡ 512 * sectors
    → length (carried_next written start call) ≡ 512 * sectors
next_size sectors start written Quiet within size = size
next_size sectors start written Synced within size = size
next_size sectors start written (Torn span) within size = size
next_size sectors start written (Written span) within size =
    let to : ℕ = 512 * span.first in let k : ℕ = 512 * span.sectors in
    let front : length (take to start) ≡ to = length-take-le to start (omega (arith, size, within.below)) in
    let mid : length (take k (drop span.from written)) ≡ k = length-take-le k (drop span.from written) (omega (arith, length-drop span.from written, within.bytes)) in
    omega (
      arith,
      front,
      mid,
      size,
      within.below,
      length-drop to start,
      length-drop k (drop to start),
      length-append (take k (drop span.from written)) (drop k (drop to start)),
      length-append (take to start) (take k (drop span.from written) ++ drop k (drop to start)),
    )

-- one request
next_sector : (sectors : ℕ) (start written : List ℕ) (call : Call) (s : ℕ) → IsWithin sectors (length written) call → length start ≡ 512 * sectors
    → sector_of (carried_next written start call) s ≡ reported_at start written s (found_next s None call)
next_sector sectors start written Quiet s within size = refl
next_sector sectors start written Synced s within size = refl
next_sector sectors start written (Torn span) s within size = refl
next_sector sectors start written (Written span) s within size =
    put_sectors start written (take (512 * span.sectors) (drop span.from written)) span (512 * span.first) (512 * span.sectors) refl refl
    (omega (arith, size, within.below)) within.bytes refl s

all_sectors : (sectors : ℕ) (start0 start written : List ℕ) (at : Option ℕ) (calls : List Call) (s : ℕ) → AllByRecursion (IsWithin sectors (length written)) calls
    → length start ≡ 512 * sectors → sector_of start s ≡ reported_at start0 written s at
    → sector_of (fold (carried_next written) start calls) s ≡ reported_at start0 written s (fold (found_next s) at calls)
all_sectors sectors start0 start written at [] s within size so = so
all_sectors sectors start0 start written at (call ∷ calls) s within size so =
    all_sectors sectors start0 (carried_next written start call) written (found_next s at call) calls s within.1 (next_size sectors start written call within.0 size)
    (next_sector sectors start written call s within.0 size ∙ reported_next s start0 start written at call so)

all_size : (sectors : ℕ) (start written : List ℕ) (calls : List Call) → AllByRecursion (IsWithin sectors (length written)) calls
    → length start ≡ 512 * sectors → length (fold (carried_next written) start calls) ≡ 512 * sectors
all_size sectors start written [] within size = size
all_size sectors start written (call ∷ calls) within size =
    all_size sectors (carried_next written start call) written calls within.1 (next_size sectors start written call within.0 size)

module _ (sectors : ℕ) (start written : List ℕ) (calls : List Call) (within : All (IsWithin sectors (length written)) calls) (size : length start ≡ 512 * sectors) where
  pub carried_size : length (carried written start calls) ≡ 512 * sectors
  carried_size = all_size sectors start written calls (recursion_from_All (IsWithin sectors (length written)) calls within) size

  -- what a read reported of a sector, the medium holds
  pub carried_reported : (s : ℕ) → sector_of (carried written start calls) s ≡ reported_at start written s (found_in s calls)
  carried_reported s = all_sectors sectors start start written None calls s (recursion_from_All (IsWithin sectors (length written)) calls within) size refl

  pub carried_now : (s : ℕ) → sector_of (carried written start calls) s ≡ bytes_at start written s (trace_of s (take (length calls) calls)).last
  carried_now s = carried_reported s ∙ bytes_now start written s calls

-- one sector's bytes are put in
module _ (sectors : ℕ) (medium bytes : List ℕ) (s : ℕ) (below : s < sectors) (one : length bytes ≡ 512) (size : length medium ≡ 512 * sectors) where
  abbrev span : Span
  span = record { first = s; sectors = 1; from = 0 }

  within_one : IsWithin sectors (length bytes) (Written span)
  within_one = record { below = omega (arith, below); bytes = omega (arith, one) }

  pub put_size : length (with_sectors bytes medium span) ≡ 512 * sectors
  put_size = next_size sectors medium bytes (Written span) within_one size

  pub put_other : (t : ℕ) → (t == s) ≡ false → sector_of (with_sectors bytes medium span) t ≡ sector_of medium t
  put_other t other =
      let outside : has_sector span t ≡ false = grind (arith, nat_tests, other) in
      next_sector sectors medium bytes (Written span) t within_one size
      ∙ ap (λ (b : Bool). reported_at medium bytes t (if b then Some (0 + 512 * (t - s)) else None)) outside

  whole : take 512 bytes ≡ bytes
  whole = take_all 512 bytes (omega (arith, one))

  pub put_one : sector_of (with_sectors bytes medium span) s ≡ bytes
  put_one =
      let inside : has_sector span s ≡ true = grind (arith, nat_tests) in
      let start : 0 + 512 * (s - s) ≡ 0 = omega arith in
      next_sector sectors medium bytes (Written span) s within_one size
      ∙ ap (λ (b : Bool). reported_at medium bytes s (if b then Some (0 + 512 * (s - s)) else None)) inside
      ∙ ap (λ (n : ℕ). take 512 (drop n bytes)) start
      ∙ whole

  -- bytes that are there leave the medium
  pub put_same_bytes : bytes ≡ sector_of medium s → with_sectors bytes medium span ≡ medium
  put_same_bytes is = ap (λ (ys : List ℕ). put_mid (512 * s) 512 medium ys) (whole ∙ is) ∙ put_same (512 * s) 512 medium

-- what is reported of another sector stays
pub reported_other : (medium medium' written : List ℕ) (t : ℕ) (at : Option ℕ) → sector_of medium' t ≡ sector_of medium t → reported_at medium' written t at ≡ reported_at medium written t at
reported_other medium medium' written t None is = is
reported_other medium medium' written t (Some at) is = refl
