-- Where a read finds each sector.
use Rattle.std.proofs.Common.{◌≡◌, ◌≢◌, inl, inr, ⊎_elim, ℕ, ◌+◌, ◌-◌, ◌*◌, ◌<◌, ◌≤◌, List, ◌++◌, ◌∷◌, [], length, get_or, set, get_or-set_same, get_or-set_other, refl, sym, ◌∙◌, ap, arith, Option, Some, None}
use Rattle.std.specs.Prelude.{unwrap_or}
use Rattle.std.proofs.lemmas.Bool.{cases_lt}
use Rattle.std.proofs.lemmas.List.Sums.{fold_push}
use Rattle.disk.specs.Record.{place_in, trace_written, trace_torn, trace_next, trace_start, trace_of}
use Rattle.disk.specs.declared.record.Call.{Call}
use Rattle.disk.specs.declared.record.Call.TheVariants.{Quiet, Synced, Written, Torn}
use Rattle.disk.specs.declared.record.Span.{Span}
use Rattle.disk.specs.declared.record.Place.{Place}
use Rattle.disk.specs.declared.record.Place.TheVariants.{Start, Record}
use Rattle.disk.specs.declared.record.Trace.{Trace}
use Rattle.disk.proofs.Widths.{place_none}
use Rattle.disk.proofs.Calls.{place_some}

-- the first sectors of a span
abbrev pub front_of : Span → ℕ → Span
front_of span i = record { first = span.first; sectors = i; from = span.from }

-- no sector is noted yet
pub place_nothing : (span : Span) (places : List Place) (s : ℕ) → get_or places s Start ≡ unwrap_or (place_in (front_of span 0) s) (get_or places s Start)
place_nothing span places s = sym (ap (λ (o : Option Place). unwrap_or o (get_or places s Start)) (place_none (front_of span 0) s (⊎_elim (λ (lt : s < span.first). inl lt) (λ (ge : span.first ≤ s). inr (omega arith)) (cases_lt s span.first))))

-- a sector that isn't the next one stands where it stood
same_place : (span : Span) (i s : ℕ) → s ≢ span.first + i → place_in (front_of span (i + 1)) s ≡ place_in (front_of span i) s
same_place span i s other = ⊎_elim
    (λ (lt : s < span.first). place_none (front_of span (i + 1)) s (inl lt) ∙ sym (place_none (front_of span i) s (inl lt)))
    (λ (ge : span.first ≤ s). ⊎_elim
    (λ (inside : s < span.first + i).
    let place : span.first + (s - span.first) ≡ s = omega arith in
    ap (λ (n : ℕ). place_in (front_of span (i + 1)) n) (sym place)
    ∙ place_some (front_of span (i + 1)) (s - span.first) (omega arith)
    ∙ sym (place_some (front_of span i) (s - span.first) (omega arith))
    ∙ ap (λ (n : ℕ). place_in (front_of span i) n) place)
    (λ (following : span.first + i ≤ s).
    place_none (front_of span (i + 1)) s (inr (omega arith)) ∙ sym (place_none (front_of span i) s (inr (omega arith))))
    (cases_lt s (span.first + i)))
    (cases_lt s span.first)

-- one sector more is noted
pub place_one_more : (span : Span) (i at : ℕ) (old places : List Place) → at ≡ span.first + i → at < length places
    → ((s : ℕ) → get_or places s Start ≡ unwrap_or (place_in (front_of span i) s) (get_or old s Start))
    → (s : ℕ) → get_or (set places at (Record (span.from + 512 * i))) s Start ≡ unwrap_or (place_in (front_of span (i + 1)) s) (get_or old s Start)
place_one_more span i at old places is below so_far s = ⊎_elim
    (λ (lt : s < at). (let other : s ≢ at = omega arith in
    rw (get_or-set_other) (so_far s ∙ ap (λ (o : Option Place). unwrap_or o (get_or old s Start)) (sym (same_place span i s (omega arith))))))
    (λ (ge : at ≤ s). ⊎_elim
    (λ (lt : at < s). (let other : s ≢ at = omega arith in
    rw (get_or-set_other) (so_far s ∙ ap (λ (o : Option Place). unwrap_or o (get_or old s Start)) (sym (same_place span i s (omega arith))))))
    (λ (le : s ≤ at).
    let here : s ≡ at = omega arith in
    ap (λ (n : ℕ). get_or (set places at (Record (span.from + 512 * i))) n Start) here
    ∙ (let inside : at < length places = below in rw (get_or-set_same) (
    ap (λ (o : Option Place). unwrap_or o (get_or old s Start)) (sym (ap (λ (n : ℕ). place_in (front_of span (i + 1)) n) (here ∙ is) ∙ place_some (front_of span (i + 1)) i (omega arith))))))
    (cases_lt at s))
    (cases_lt s at)

-- the place where a read finds a sector after one more call
last_of : (t : Trace) (o : Option Place) → (trace_written t o).last ≡ unwrap_or o t.last
last_of t None = refl
last_of t (Some place) = refl

-- calls that move no read
abbrev pub LeavesPlaces : Call → Type 0
LeavesPlaces Quiet = Unit {0}
LeavesPlaces Synced = Unit {0}
LeavesPlaces (Written span) = ⊥
LeavesPlaces (Torn span) = Unit {0}

torn_last : (t : Trace) (o : Option Place) → (trace_torn t o).last ≡ t.last
torn_last t None = refl
torn_last t (Some place) = refl

last_left : (call : Call) (s : ℕ) (t : Trace) → LeavesPlaces call → (trace_next s t call).last ≡ t.last
last_left Quiet s t leaves = refl
last_left Synced s t leaves = refl
last_left (Written span) s t leaves = absurd leaves
last_left (Torn span) s t leaves = torn_last t (place_in span s)

-- the places after a call that moves no read
pub places_left : (calls calls' : List Call) (call : Call) (sectors : ℕ) (places : List Place) → calls' ≡ calls ++ call ∷ [] → LeavesPlaces call
    → ((s : ℕ) → s < sectors → get_or places s Start ≡ (trace_of s calls).last) → (s : ℕ) → s < sectors → get_or places s Start ≡ (trace_of s calls').last
places_left calls calls' call sectors places is leaves so s below =
    so s below ∙ sym (last_left call s (trace_of s calls) leaves) ∙ sym (ap (λ (t : Trace). t.last) (ap (λ (l : List Call). trace_of s l) is ∙ fold_push (trace_next s) trace_start calls call))

-- and after a write
pub places_written : (calls calls' : List Call) (span : Span) (sectors : ℕ) (old places : List Place) → calls' ≡ calls ++ Written span ∷ []
    → ((s : ℕ) → get_or places s Start ≡ unwrap_or (place_in span s) (get_or old s Start))
    → ((s : ℕ) → s < sectors → get_or old s Start ≡ (trace_of s calls).last) → (s : ℕ) → s < sectors → get_or places s Start ≡ (trace_of s calls').last
places_written calls calls' span sectors old places is noted so s below =
    noted s ∙ ap (λ (p : Place). unwrap_or (place_in span s) p) (so s below) ∙ sym (last_of (trace_of s calls) (place_in span s))
    ∙ sym (ap (λ (t : Trace). t.last) (ap (λ (l : List Call). trace_of s l) is ∙ fold_push (trace_next s) trace_start calls (Written span)))
