-- Each sector of a disk is whole: it has 512 bytes, and past the end there is none.
use Rattle.std.proofs.Common.{◌≡◌, inl, inr, ⊎_elim, ℕ, ◌+◌, ◌*◌, ◌<◌, ◌≤◌, false, List, [], ◌∷◌, length, drop, refl, sym, ◌∙◌, ap, arith, length-drop, Option, None}
use Rattle.std.specs.Prelude.{fold, All}
use Rattle.std.specs.List.{AllByRecursion}
use Rattle.std.proofs.lemmas.List.Elements.{recursion_from_All, All-weaker}
use Rattle.std.proofs.lemmas.List.{length-take-le}
use Rattle.std.proofs.lemmas.Bool.{cases_lt}
use Rattle.std.proofs.lemmas.Bool.Decides.{nat_tests}
use Rattle.disk.specs.State.{Outside}
use Rattle.disk.specs.Record.{bytes_at, place_in, trace_written, trace_torn, trace_next, trace_start, trace_of, IsWithin, IsPlaced}
use Rattle.disk.specs.declared.record.Call.{Call}
use Rattle.disk.specs.declared.record.Call.TheVariants.{Quiet, Synced, Written, Torn}
use Rattle.disk.specs.declared.record.Span.{Span}
use Rattle.disk.specs.declared.record.Place.{Place}
use Rattle.disk.specs.declared.record.Place.TheVariants.{Start, Record}
use Rattle.disk.specs.declared.record.Trace.{Trace}
use Rattle.disk.proofs.RecordLemmas.{placed}
use Rattle.disk.proofs.Sectors.{sector_whole}

-- a sector that is none of a span has no place in it
pub place_none : (span : Span) (s : ℕ) → Outside span.first (512 * span.sectors) s → place_in span s ≡ None
place_none span s (inl below) = grind (arith, nat_tests)
place_none span s (inr above) = grind (arith, nat_tests)

-- a sector past the end is none of a call's
place_past : (sectors : ℕ) (span : Span) (s : ℕ) → span.first + span.sectors ≤ sectors → sectors ≤ s → place_in span s ≡ None
place_past sectors span s within past = place_none span s (inr (omega arith))

-- nothing was written to a sector and nothing is open
record IsUntouched (t : Trace) : Type 0 where
  last : t.last ≡ Start
  is_open : t.is_open ≡ false
  handed : t.handed ≡ Start

past_next : (sectors written s : ℕ) (call : Call) → IsWithin sectors written call → sectors ≤ s → (t : Trace) → IsUntouched t → IsUntouched (trace_next s t call)
past_next sectors written s Quiet within past t so = so
past_next sectors written s Synced within past t so = record { last = so.last; is_open = refl; handed = so.handed }
past_next sectors written s (Written span) within past t so =
    let none : place_in span s ≡ None = place_past sectors span s within.below past in
    record {
      last = ap (λ (o : Option Place). (trace_written t o).last) none ∙ so.last;
      is_open = ap (λ (o : Option Place). (trace_written t o).is_open) none ∙ so.is_open;
      handed = ap (λ (o : Option Place). (trace_written t o).handed) none ∙ so.handed;
    }
past_next sectors written s (Torn span) within past t so =
    let none : place_in span s ≡ None = place_past sectors span s within.below past in
    record {
      last = ap (λ (o : Option Place). (trace_torn t o).last) none ∙ so.last;
      is_open = ap (λ (o : Option Place). (trace_torn t o).is_open) none ∙ so.is_open;
      handed = ap (λ (o : Option Place). (trace_torn t o).handed) none ∙ so.handed;
    }

past_from : (sectors written s : ℕ) (calls : List Call) → AllByRecursion (IsWithin sectors written) calls → sectors ≤ s → (t : Trace) → IsUntouched t →
    IsUntouched (fold (trace_next s) t calls)
past_from sectors written s [] within past t so = so
past_from sectors written s (call ∷ calls) within past t so =
    past_from sectors written s calls within.1 past (trace_next s t call) (past_next sectors written s call within.0 past t so)

untouched : (sectors written s : ℕ) (calls : List Call) → All (IsWithin sectors written) calls → sectors ≤ s → IsUntouched (trace_of s calls)
untouched sectors written s calls within past =
    past_from sectors written s calls (recursion_from_All (IsWithin sectors written) calls within) past trace_start (record { last = refl; is_open = refl; handed = refl })

-- past the end nothing is written and nothing is open
pub past_end : (sectors written s : ℕ) (calls : List Call) → All (IsWithin sectors written) calls → sectors ≤ s → ((trace_of s calls).last ≡ Start) × ((trace_of s calls).is_open ≡ false)
past_end sectors written s calls within past = let so = untouched sectors written s calls within past in (so.last, so.is_open)

-- what stands at a place is a whole sector
pub width_at : (sectors : ℕ) (start written : List ℕ) (s : ℕ) (p : Place) → length start ≡ 512 * sectors → s < sectors → IsPlaced (length written) p → length (bytes_at start written s p) ≡ 512
width_at sectors start written s Start size below here = sector_whole start sectors s size below
width_at sectors start written s (Record at) size below here = length-take-le 512 (drop at written) (omega (arith, length-drop at written))

-- calls that are within stay so with more bytes
pub all_further : (sectors written more : ℕ) (calls : List Call) → written ≤ more → All (IsWithin sectors written) calls → All (IsWithin sectors more) calls
all_further sectors written more calls le within =
    All-weaker (IsWithin sectors written) (IsWithin sectors more) (λ call so. record { below = so.below; bytes = omega (arith, so.bytes, le) }) calls within

module _ (sectors : ℕ) (start written written' : List ℕ) (calls calls' : List Call) (size : length start ≡ 512 * sectors)
    (within : All (IsWithin sectors (length written)) calls) (within' : All (IsWithin sectors (length written')) calls') (s : ℕ) where
  -- each sector is as long whatever was called
  pub same_width : length (bytes_at start written s (trace_of s calls).last) ≡ length (bytes_at start written' s (trace_of s calls').last)
  same_width = ⊎_elim
      (λ (below : s < sectors).
      width_at sectors start written s (trace_of s calls).last size below (placed sectors (length written) s calls within).last
      ∙ sym (width_at sectors start written' s (trace_of s calls').last size below (placed sectors (length written') s calls' within').last))
      (λ (past : sectors ≤ s).
      ap (λ (p : Place). length (bytes_at start written s p)) (untouched sectors (length written) s calls within past).last
      ∙ sym (ap (λ (p : Place). length (bytes_at start written' s p)) (untouched sectors (length written') s calls' within' past).last))
      (cases_lt s sectors)

  -- and so is what was handed in for it
  pub same_handed_width : length (bytes_at start written s (trace_of s calls).handed) ≡ length (bytes_at start written' s (trace_of s calls').handed)
  same_handed_width = ⊎_elim
      (λ (below : s < sectors).
      width_at sectors start written s (trace_of s calls).handed size below (placed sectors (length written) s calls within).handed
      ∙ sym (width_at sectors start written' s (trace_of s calls').handed size below (placed sectors (length written') s calls' within').handed))
      (λ (past : sectors ≤ s).
      ap (λ (p : Place). length (bytes_at start written s p)) (untouched sectors (length written) s calls within past).handed
      ∙ sym (ap (λ (p : Place). length (bytes_at start written' s p)) (untouched sectors (length written') s calls' within' past).handed))
      (cases_lt s sectors)
