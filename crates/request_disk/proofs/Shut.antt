-- After a sync no sector is open.
use Rattle.std.proofs.Common.{◌≡◌, ℕ, Bool, true, false, List, [], ◌∷◌, length, take, refl, ◌∙◌, ap, rules, arith}
use Rattle.std.specs.Prelude.{fold}
use Rattle.std.proofs.lemmas.List.{take_all}
use Rattle.disk.specs.Record.{trace_next, trace_start, trace_of}
use Rattle.disk.specs.declared.record.Call.{Call}
use Rattle.disk.specs.declared.record.Call.TheVariants.{Quiet, Synced, Written, Torn}
use Rattle.disk.specs.declared.record.Trace.{Trace}
use Rattle.request_disk.specs.Requests.{is_sync, ends_in_sync}

next_shut : (s : ℕ) (t : Trace) (call : Call) → is_sync call ≡ true → (trace_next s t call).is_open ≡ false
next_shut s t Quiet is = search (rules, is)
next_shut s t Synced is = refl
next_shut s t (Written span) is = search (rules, is)
next_shut s t (Torn span) is = search (rules, is)

all_shut : (s : ℕ) (t : Trace) (before : Bool) (calls : List Call) → (before ≡ true → t.is_open ≡ false)
    → fold (λ b request. is_sync request) before calls ≡ true → (fold (trace_next s) t calls).is_open ≡ false
all_shut s t before [] shut is = shut is
all_shut s t before (call ∷ calls) shut is = all_shut s (trace_next s t call) (is_sync call) calls (next_shut s t call) is

-- where the last request is a sync, or there is none
pub shut_now : (s : ℕ) (calls : List Call) → ends_in_sync calls ≡ true → (trace_of s (take (length calls) calls)).is_open ≡ false
shut_now s calls is = ap (λ (l : List Call). (trace_of s l).is_open) (take_all (length calls) calls (omega arith)) ∙ all_shut s trace_start true calls (λ _. refl) is
