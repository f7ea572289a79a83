-- What a record says, call by call.
use Rattle.std.proofs.Common.{◌≡◌, ℕ, ◌+◌, ◌-◌, ◌*◌, ◌<◌, ◌≤◌, Bool, true, false, List, [], ◌∷◌, length, take, get_or, refl, ◌∙◌, ap, arith, Option, Some, None}
use Rattle.std.specs.Prelude.{fold, All, if◌then◌else◌, nat_le, nat_lt, ◌&&◌}
use Rattle.std.specs.List.{AllByRecursion}
use Rattle.std.proofs.lemmas.List.Elements.{recursion_from_All}
use Rattle.std.proofs.lemmas.List.Sums.{fold_more}
use Rattle.disk.specs.Record.{place_in, trace_written, trace_torn, trace_next, trace_start, trace_of, IsWithin, IsPlaced, AllPlaced}
use Rattle.disk.specs.declared.record.Call.{Call}
use Rattle.disk.specs.declared.record.Call.TheVariants.{Quiet, Synced, Written, Torn}
use Rattle.disk.specs.declared.record.Span.{Span}
use Rattle.disk.specs.declared.record.Place.{Place}
use Rattle.disk.specs.declared.record.Place.TheVariants.{Record}
use Rattle.disk.specs.declared.record.Trace.{Trace}

pub trace_more : (s : ℕ) (calls : List Call) (i : ℕ) (d call : Call) → i < length calls → get_or calls i d ≡ call → trace_of s (take (i + 1) calls) ≡ trace_next s (trace_of s (take i calls)) call
trace_more s calls i d call below is = fold_more (trace_next s) trace_start calls i d below ∙ ap (λ (c : Call). trace_next s (trace_of s (take i calls)) c) is

-- a place that a span gives is within it
IfPlaced : ℕ → Option Place → Type 0
IfPlaced written None = Unit {0}
IfPlaced written (Some place) = IsPlaced written place

placed_if : (written : ℕ) (span : Span) (s : ℕ) (b : Bool) → (b ≡ true → s - span.first < span.sectors) → span.from + 512 * span.sectors ≤ written → IfPlaced written (if b then Some (Record (span.from + 512 * (s - span.first))) else None)
unfolding IfPlaced
placed_if written span s false inside within = tt
placed_if written span s true inside within = let lt = inside refl in omega arith

placed_in : (written : ℕ) (span : Span) (s : ℕ) → span.from + 512 * span.sectors ≤ written → IfPlaced written (place_in span s)
placed_in written span s within = placed_if written span s (nat_le span.first s && nat_lt (s - span.first) span.sectors) (λ e. grind arith) within

placed_written : (written : ℕ) (t : Trace) (o : Option Place) → IfPlaced written o → AllPlaced written t → AllPlaced written (trace_written t o)
unfolding IfPlaced
placed_written written t None here all = all
placed_written written t (Some place) here all = record { last = here; handed = here; synced = all.synced }

placed_torn : (written : ℕ) (t : Trace) (o : Option Place) → IfPlaced written o → AllPlaced written t → AllPlaced written (trace_torn t o)
unfolding IfPlaced
placed_torn written t None here all = all
placed_torn written t (Some place) here all = record { last = all.last; handed = here; synced = all.synced }

placed_next : (sectors written s : ℕ) (t : Trace) (call : Call) → IsWithin sectors written call → AllPlaced written t → AllPlaced written (trace_next s t call)
placed_next sectors written s t Quiet within all = all
placed_next sectors written s t Synced within all = record { last = all.last; handed = all.handed; synced = all.last }
placed_next sectors written s t (Written span) within all = placed_written written t (place_in span s) (placed_in written span s within.bytes) all
placed_next sectors written s t (Torn span) within all = placed_torn written t (place_in span s) (placed_in written span s within.bytes) all

placed_from : (sectors written s : ℕ) (t : Trace) (calls : List Call) → AllByRecursion (IsWithin sectors written) calls → AllPlaced written t → AllPlaced written (fold (trace_next s) t calls)
placed_from sectors written s t [] within all = all
placed_from sectors written s t (call ∷ calls) within all = placed_from sectors written s (trace_next s t call) calls within.1 (placed_next sectors written s t call within.0 all)

pub placed : (sectors written s : ℕ) (calls : List Call) → All (IsWithin sectors written) calls → AllPlaced written (trace_of s calls)
placed sectors written s calls within = placed_from sectors written s trace_start calls (recursion_from_All (IsWithin sectors written) calls within) (record { last = tt; handed = tt; synced = tt })
