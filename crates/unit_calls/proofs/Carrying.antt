-- A medium on which the first requests of a list are carried out.
use Rattle.std.proofs.Common.{◌≡◌, ℕ, ◌+◌, ◌-◌, ◌*◌, ◌<◌, ◌≤◌, Bool, true, false, List, [], ◌∷◌, ◌++◌, length, take, drop, Option, Some, None, refl, sym, ◌∙◌, ap, subst, arith, length-drop}
use Rattle.std.specs.Prelude.{nat_le, nat_lt, ◌&&◌, if◌then◌else◌}
use Rattle.std.proofs.lemmas.List.{drop-drop, length-take-le, take-append-le, take_all}
use Rattle.std.proofs.lemmas.List.Sums.{fold-append}
use Rattle.disk.specs.State.{Platter, IsImage, sector_of}
use Rattle.disk.specs.Record.{place_in, trace_written, trace_torn, trace_next, trace_start, trace_of, bytes_at, platter_of, IsWithin}
use Rattle.disk.specs.declared.record.Call.{Call}
use Rattle.disk.specs.declared.record.Call.TheVariants.{Quiet, Synced, Written, Torn}
use Rattle.disk.specs.declared.record.Place.{Place}
use Rattle.disk.specs.declared.record.Place.TheVariants.{Record}
use Rattle.disk.specs.declared.record.Span.{Span}
use Rattle.disk.specs.declared.record.Trace.{Trace}
use Rattle.request_disk.proofs.Copied.{front_sector}
use Rattle.unit_calls.specs.Mediums.{is_of, written_on, at_rest, carried_out}
use Rattle.unit_calls.specs.Requests.{IfElse, Description, Refuses, Syncs, IsAt, IsReportedAs}
use Rattle.unit_calls.specs.declared.status.Status.{Status}
use Rattle.unit_calls.specs.declared.status.Status.TheVariants as a_status
use Rattle.unit_calls.specs.declared.call_values.EtcsRequest.{EtcsRequest}

-- The medium holds what the copy holds at a moment, and has no other sector open.
pub record IsThere (medium copy : Platter) : Type 0 where
  pub contents : (s : ℕ) → medium.contents s ≡ copy.contents s
  pub closed : (s : ℕ) → copy.is_open s ≡ false → medium.is_open s ≡ false

-- so each image of it is one of the copy
pub image_there : (medium copy : Platter) (image : ℕ → List ℕ) → IsThere medium copy → IsImage medium image → IsImage copy image
image_there medium copy image there is = record {
  shut = λ s shut. is.shut s (there.closed s shut) ∙ there.contents s;
  whole = λ s. is.whole s ∙ ap length (there.contents s);
}

-- ---- the copy, a request later

module _ (start written : List ℕ) (before after : List Call) (call : Call) (next : after ≡ before ++ call ∷ []) where
  pub trace_later : (s : ℕ) → trace_of s after ≡ trace_next s (trace_of s before) call
  trace_later s = ap (λ (l : List Call). trace_of s l) next ∙ fold-append (trace_next s) trace_start before (call ∷ [])

  -- a call that leaves each sector its bytes
  rest_there : ((s : ℕ) → (trace_next s (trace_of s before) call).last ≡ (trace_of s before).last)
      → (medium : Platter) → IsThere medium (platter_of start written before) → IsThere (at_rest medium.contents) (platter_of start written after)
  rest_there same medium there = record {
    contents = λ s. there.contents s ∙ sym (ap (λ (p : Place). bytes_at start written s p) (ap (λ (t : Trace). t.last) (trace_later s) ∙ same s));
    closed = λ s shut. refl;
  }

torn_last : (t : Trace) (place : Option Place) → (trace_torn t place).last ≡ t.last
torn_last t None = refl
torn_last t (Some place) = refl

-- ---- a write

-- a sector of the bytes that it is reported with
reported_sector : (written rest : List ℕ) (from n i : ℕ) → i < n → from + 512 * n ≤ length written
    → sector_of (take (512 * n) (drop from written) ++ rest) i ≡ take 512 (drop (from + 512 * i) written)
reported_sector written rest from n i less within =
    let content : List ℕ = take (512 * n) (drop from written) in
    let left : 512 * n ≤ length (drop from written) = omega (arith, length-drop from written) in
    let size : length content ≡ 512 * n = length-take-le (512 * n) (drop from written) left in
    sym (front_sector (content ++ rest) n i less)
    ∙ ap (λ (l : List ℕ). sector_of l i) (take-append-le (512 * n) content rest (omega (arith, size)) ∙ take_all (512 * n) content (omega (arith, size)))
    ∙ front_sector (drop from written) n i less
    ∙ ap (λ (l : List ℕ). take 512 l) (drop-drop (512 * i) from written)

below_end : (first n s : ℕ) → (nat_le first s && nat_lt (s - first) n) ≡ true → s - first < n
below_end first n s is = grind arith

one_sector : (b : Bool) (s x : ℕ) (start written sector before : List ℕ) (t : Trace) → (b ≡ true → sector ≡ take 512 (drop x written)) → before ≡ bytes_at start written s t.last
    → (if b then sector else before) ≡ bytes_at start written s (trace_written t (if b then Some (Record x) else None)).last
one_sector true s x start written sector before t new same = new refl
one_sector false s x start written sector before t new same = same

one_closed : (b : Bool) (x : ℕ) (t : Trace) (before : Bool) → (t.is_open ≡ false → before ≡ false) → (trace_written t (if b then Some (Record x) else None)).is_open ≡ false
    → (if b then true else before) ≡ false
one_closed true x t before so is = is
one_closed false x t before so is = so is

module _ (start written rest : List ℕ) (before after : List Call) (span : Span) (next : after ≡ before ++ Written span ∷ []) (within : span.from + 512 * span.sectors ≤ length written) where
  abbrev its_request : EtcsRequest
  its_request = record { sector = span.first; sectors = span.sectors; kind = 1 }

  abbrev its_bytes : List ℕ
  its_bytes = take (512 * span.sectors) (drop span.from written)

  written_there : (medium : Platter) → IsThere medium (platter_of start written before) → IsThere (written_on its_request (its_bytes ++ rest) medium) (platter_of start written after)
  written_there medium there = record {
    contents = λ s.
        one_sector (is_of its_request s) s (span.from + 512 * (s - span.first)) start written (sector_of (its_bytes ++ rest) (s - span.first)) (medium.contents s) (trace_of s before)
        (λ yes. reported_sector written rest span.from span.sectors (s - span.first) (below_end span.first span.sectors s yes) within) (there.contents s)
        ∙ sym (ap (λ (t : Trace). bytes_at start written s t.last) (trace_later start written before after (Written span) next s));
    closed = λ s shut.
        one_closed (is_of its_request s) (span.from + 512 * (s - span.first)) (trace_of s before) (medium.is_open s) (there.closed s)
        (sym (ap (λ (t : Trace). t.is_open) (trace_later start written before after (Written span) next s)) ∙ shut);
  }

-- ---- a request, as it is reported

sync_there : (reported : EtcsRequest) (bytes : List ℕ) (medium copy : Platter) → reported ≡ record { sector = 0; sectors = 0; kind = 2 }
    → IsThere (at_rest medium.contents) copy → IsThere (carried_out reported bytes medium) copy
sync_there reported bytes medium copy is there =
    let F : EtcsRequest → Type 0 = λ r. IsThere (carried_out r bytes medium) copy in
    subst F (sym is) there

write_there : (reported : EtcsRequest) (bytes content : List ℕ) (first n : ℕ) (medium copy : Platter) → reported ≡ record { sector = first; sectors = n; kind = 1 } → bytes ≡ content
    → IsThere (written_on (record { sector = first; sectors = n; kind = 1 }) content medium) copy → IsThere (carried_out reported bytes medium) copy
write_there reported bytes content first n medium copy is same there =
    let F : EtcsRequest → Type 0 = λ r. IsThere (carried_out r bytes medium) copy in
    let B : List ℕ → Type 0 = λ b. IsThere (carried_out (record { sector = first; sectors = n; kind = 1 }) b medium) copy in
    subst F (sym is) (subst B (sym same) there)

otherwise : (b : Bool) (So Else : Type 0) → (So → ⊥) → IfElse b So Else → Else
otherwise true So Else not_so is = absurd (not_so is)
otherwise false So Else not_so is = is

no_space : (status : Status) → status ≡ a_status.Done → status ≡ a_status.NoRoom → ⊥
no_space status done is = absurd cc

-- what is left to show of a request that was reported
abbrev Carried : List ℕ → List ℕ → List Call → ℕ → Description → Platter → Type 0
Carried start written requests index t medium =
    (index < length requests) × IsThere (carried_out t.reported t.bytes medium) (platter_of start written (take (index + 1) requests))

module _ (sectors : ℕ) (start written : List ℕ) (requests : List Call) (index : ℕ) (t : Description) (done : t.status ≡ a_status.Done) (medium : Platter)
    (there : IsThere medium (platter_of start written (take index requests))) where
  by_sync : (call : Call) → IsAt index requests (Some call) → ((s : ℕ) → (trace_next s (trace_of s (take index requests)) call).last ≡ (trace_of s (take index requests)).last)
      → Syncs t → Carried start written requests index t medium
  by_sync call at same reported = (
    at.0,
    sync_there t.reported t.bytes medium (platter_of start written (take (index + 1) requests)) reported.1
        (rest_there start written (take index requests) (take (index + 1) requests) call at.1 same medium there),
  )

  pub carried_there : (found : Option Call) → IsAt index requests found → ((request : Call) → found ≡ Some request → IsWithin sectors (length written) request)
      → IsReportedAs written found t → Carried start written requests index t medium
  carried_there None at within reported = let none : t.status ≡ a_status.NoSuchRequest = reported.0 in absurd (let no : a_status.Done ≡ a_status.NoSuchRequest = sym done ∙ none in cc)
  carried_there (Some Quiet) at within reported = by_sync Quiet at (λ s. refl) reported
  carried_there (Some Synced) at within reported = by_sync Synced at (λ s. refl) reported
  carried_there (Some (Torn span)) at within reported = by_sync (Torn span) at (λ s. torn_last (trace_of s (take index requests)) (place_in span s)) reported
  carried_there (Some (Written span)) at within reported =
      let content : List ℕ = take (512 * span.sectors) (drop span.from written) in
      let rest : List ℕ = drop (length content) t.caller_buffer in
      let its = within (Written span) refl in
      let Whole : Type 0 = (t.status ≡ a_status.Done) × (t.reported ≡ record { sector = span.first; sectors = span.sectors; kind = 1 }) × (t.bytes ≡ content ++ rest) in
      let so = otherwise (nat_lt (length t.caller_buffer) (length content)) (Refuses a_status.NoRoom t) Whole (λ refused. no_space t.status done refused.0) reported in (
        at.0,
        write_there t.reported t.bytes (content ++ rest) span.first span.sectors medium (platter_of start written (take (index + 1) requests)) so.1 so.2
            (written_there start written rest (take index requests) (take (index + 1) requests) span at.1 its.bytes medium there),
      )
