-- Where the bytes of a sector are found, as the record of a disk says it, and the request at a place.
use Rattle.std.proofs.Common.{◌≡◌, ℕ, ◌+◌, ◌-◌, ◌*◌, ◌<◌, ◌≤◌, Bool, true, false, List, [], ◌∷◌, ◌++◌, length, take, get_or, refl, sym, ◌∙◌, ap, subst, arith, Option, Some, None}
use Rattle.std.specs.Prelude.{fold, All, IfSome, if◌then◌else◌}
use Rattle.std.proofs.Math.Seq.{get_or-append_seam}
use Rattle.std.proofs.lemmas.List.{take_all, length-take-le, get_or-take}
use Rattle.std.proofs.lemmas.List.Elements.{All-get_or}
use Rattle.disk.specs.Record.{bytes_at, place_in, trace_written, trace_torn, trace_next, trace_start, trace_of, IsWithin, IsPlaced}
use Rattle.disk.specs.declared.record.Call.{Call}
use Rattle.disk.specs.declared.record.Call.TheVariants.{Quiet, Synced, Written, Torn}
use Rattle.disk.specs.declared.record.Place.{Place}
use Rattle.disk.specs.declared.record.Place.TheVariants.{Start, Record}
use Rattle.disk.specs.declared.record.Trace.{Trace}
use Rattle.disk.proofs.RecordLemmas.{placed}
use Rattle.request_disk.specs.Requests.{has_sector, found_next, found_in, reported_at}

-- as a place of the record
abbrev pub place_reported : Option ℕ → Place
place_reported None = Start
place_reported (Some at) = Record at

written_reported : (b : Bool) (x : ℕ) (t : Trace) (at : Option ℕ) → t.last ≡ place_reported at
    → (trace_written t (if b then Some (Record x) else None)).last ≡ place_reported (if b then Some x else at)
written_reported true x t at so = refl
written_reported false x t at so = so

torn_reported : (t : Trace) (o : Option Place) → (trace_torn t o).last ≡ t.last
torn_reported t None = refl
torn_reported t (Some place) = refl

next_reported : (s : ℕ) (t : Trace) (at : Option ℕ) (call : Call) → t.last ≡ place_reported at → (trace_next s t call).last ≡ place_reported (found_next s at call)
next_reported s t at Quiet so = so
next_reported s t at Synced so = so
next_reported s t at (Written span) so = written_reported (has_sector span s) (span.from + 512 * (s - span.first)) t at so
next_reported s t at (Torn span) so = torn_reported t (place_in span s) ∙ so

all_reported : (s : ℕ) (t : Trace) (at : Option ℕ) (calls : List Call) → t.last ≡ place_reported at → (fold (trace_next s) t calls).last ≡ place_reported (fold (found_next s) at calls)
all_reported s t at [] so = so
all_reported s t at (call ∷ calls) so = all_reported s (trace_next s t call) (found_next s at call) calls (next_reported s t at call so)

-- where a read finds a sector
pub last_reported : (s : ℕ) (calls : List Call) → (trace_of s calls).last ≡ place_reported (found_in s calls)
last_reported s calls = all_reported s trace_start None calls refl

reported_same : (start written : List ℕ) (s : ℕ) (at : Option ℕ) → reported_at start written s at ≡ bytes_at start written s (place_reported at)
reported_same start written s None = refl
reported_same start written s (Some at) = refl

-- its bytes
pub bytes_reported : (start written : List ℕ) (s : ℕ) (calls : List Call) → reported_at start written s (found_in s calls) ≡ bytes_at start written s (trace_of s calls).last
bytes_reported start written s calls = reported_same start written s (found_in s calls) ∙ ap (λ (p : Place). bytes_at start written s p) (sym (last_reported s calls))

-- its bytes now, after all calls
pub bytes_now : (start written : List ℕ) (s : ℕ) (calls : List Call)
    → reported_at start written s (found_in s calls) ≡ bytes_at start written s (trace_of s (take (length calls) calls)).last
bytes_now start written s calls = bytes_reported start written s calls ∙ ap (λ (l : List Call). bytes_at start written s (trace_of s l).last) (sym (take_all (length calls) calls (omega arith)))

-- where bytes are found a whole sector stands
IfFound : ℕ → Option ℕ → Type 0
IfFound written None = Unit {0}
IfFound written (Some at) = at + 512 ≤ written

if_found : (written : ℕ) (at : Option ℕ) → IsPlaced written (place_reported at) → IfFound written at
unfolding IfFound
if_found written None here = tt
if_found written (Some at) here = here

there_if : (written : ℕ) (at : Option ℕ) → IfFound written at → IfSome at (λ n. n + 512 ≤ written)
unfolding IfFound
there_if written None here = tt
there_if written (Some at) here = here

-- where bytes are found a whole sector stands
pub found_there : (sectors written s : ℕ) (calls : List Call) → All (IsWithin sectors written) calls → IfSome (found_in s calls) (λ n. n + 512 ≤ written)
found_there sectors written s calls within =
    let P : Place → Type 0 = λ p. IsPlaced written p in
    there_if written (found_in s calls) (if_found written (found_in s calls) (subst P (last_reported s calls) (placed sectors written s calls within).last))

-- what is so of each request is so of the one at a place
pub at_place : (P : Call → Type 0) (calls : List Call) (i : ℕ) (call : Call) → i < length calls → take (i + 1) calls ≡ take i calls ++ call ∷ [] → All P calls → P call
at_place P calls i call below is all =
    let size : length (take i calls) ≡ i = length-take-le i calls (omega (arith, below)) in
    let here : get_or calls i call ≡ call =
    sym (get_or-take (i + 1) calls i call (omega arith)) ∙ ap (λ (l : List Call). get_or l i call) is
    ∙ ap (λ (n : ℕ). get_or (take i calls ++ call ∷ []) n call) (sym size) ∙ get_or-append_seam (take i calls) call [] call in
    subst P here (All-get_or P calls i call below all)
