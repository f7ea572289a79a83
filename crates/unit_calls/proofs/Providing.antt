-- A sector that is handed in as the medium holds it, at any point of the list.
use Rattle.std.proofs.Common.{◌≡◌, ◌⊎◌, inl, inr, ⊎_elim, ℕ, Bool, true, false, List, [], ◌∷◌, take, drop, Option, Some, None, refl, sym, ◌∙◌, ap}
use Rattle.std.specs.Prelude.{fold, if◌then◌else◌}
use Rattle.std.proofs.lemmas.List.{take-append-drop}
use Rattle.std.proofs.lemmas.List.Sums.{fold-append}
use Rattle.disk.specs.State.{contents_of}
use Rattle.disk.specs.declared.record.Call.{Call}
use Rattle.disk.specs.declared.record.Call.TheVariants.{Quiet, Synced, Written, Torn}
use Rattle.request_disk.specs.Requests.{has_sector, found_next, found_in, reported_at}
use Rattle.request_disk.specs.Requesting.{Requesting, request_state, knows, with_sector}
use Rattle.request_disk.proofs.Found.{bytes_reported}
use Rattle.request_disk.proofs.Holding.{unknown_found, unknown_contents}
use Rattle.unit_calls.proofs.Floating.{moment_of}

-- what a request writes stays written
if_none : (b : Bool) (x at : ℕ) → (if b then Some x else Some at) ≡ None → Some at ≡ None
if_none true x at is = absurd cc
if_none false x at is = is

next_none : (s at : ℕ) (call : Call) → found_next s (Some at) call ≡ None → Some at ≡ None
next_none s at Quiet is = is
next_none s at Synced is = is
next_none s at (Written span) is = if_none (has_sector span s) _ at is
next_none s at (Torn span) is = is

none_before : (s : ℕ) (o : Option ℕ) (calls : List Call) → fold (found_next s) o calls ≡ None → o ≡ None
none_before s None calls is = refl
none_before s (Some at) [] is = is
none_before s (Some at) (call ∷ calls) is = next_none s at call (none_before s (found_next s (Some at) call) calls is)

-- so a sector that isn't known is the same at each moment
pub unknown_moment : (w : Requesting) (s k : ℕ) → knows s w ≡ false → (moment_of w k).contents s ≡ contents_of (request_state w) s
unknown_moment w s k is =
    let first : List Call = take k w.requests in
    let rest : List Call = drop k w.requests in
    let all : fold (found_next s) (found_in s first) rest ≡ None =
    sym (fold-append (found_next s) None first rest) ∙ ap (λ (l : List Call). found_in s l) (take-append-drop k w.requests) ∙ unknown_found s w is in
    sym (bytes_reported w.medium w.written s first)
    ∙ ap (λ (o : Option ℕ). reported_at w.medium w.written s o) (none_before s (found_in s first) rest all)
    ∙ sym (unknown_contents s w is)

-- and the disk stays as it was
module _ (w : Requesting) (s : ℕ) (bytes : List ℕ) where
  abbrev TheSame : Requesting → Type 0
  TheSame next = request_state next ≡ request_state w

  put_known : (b : Bool) (other : Requesting) → b ≡ true → TheSame (if b then record w { wanted = None } else other)
  put_known true other is = refl
  put_known false other is = absurd cc

  either_known : (b : Bool) → knows s w ≡ b → (TheSame (with_sector s bytes w) ⊎ (knows s w ≡ false))
  either_known true is = inl (put_known (knows s w) _ is)
  either_known false is = inr is

  pub provided_same : (next : Requesting) (carried : ℕ) → next ≡ with_sector s bytes w → (bytes ≡ contents_of (request_state w) s → TheSame next)
      → bytes ≡ (moment_of w carried).contents s → TheSame next
  provided_same next carried next_is same is = ⊎_elim
      (λ (still : TheSame (with_sector s bytes w)). ap (λ (d : Requesting). request_state d) next_is ∙ still)
      (λ (unknown : knows s w ≡ false). same (is ∙ unknown_moment w s carried unknown))
      (either_known (knows s w) refl)
