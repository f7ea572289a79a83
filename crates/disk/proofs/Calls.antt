-- What one more call of the record leaves.
use Rattle.std.proofs.Common.{◌≡◌, ⊎_elim, ℕ, ◌+◌, ◌-◌, ◌*◌, ◌<◌, ◌≤◌, true, false, List, [], ◌∷◌, ◌++◌, length, take, drop, refl, sym, ◌∙◌, ap, subst, arith, length-append, Option, Some, None}
use Rattle.std.specs.Prelude.{All, if◌then◌else◌, nat_le, nat_lt, ◌&&◌}
use Rattle.std.proofs.lemmas.List.Elements.{All-take, All-push}
use Rattle.std.proofs.lemmas.List.Sums.{fold_push}
use Rattle.std.proofs.lemmas.List.{take_all, take-append-le, drop-take}
use Rattle.std.proofs.lemmas.Bool.{cases_lt}
use Rattle.std.proofs.lemmas.Bool.Decides.{nat_tests}
use Rattle.std.proofs.Math.Seq.{drop-append-add}
use Rattle.disk.specs.State.{Platter, Outside, SameOutside, SameBut, Touches, Holds}
use Rattle.disk.specs.Record.{bytes_at, place_in, trace_written, trace_torn, trace_next, trace_start, trace_of, platter_of, state_of, IsWithin, IsPlaced}
use Rattle.disk.specs.Memory.{Recording, IsRecording, IsNoted, memory_state}
use Rattle.disk.specs.declared.record.Call.{Call}
use Rattle.disk.specs.declared.record.Call.TheVariants.{Quiet, Synced, Written, Torn}
use Rattle.disk.specs.declared.record.Span.{Span}
use Rattle.disk.specs.declared.record.Place.{Place}
use Rattle.disk.specs.declared.record.Place.TheVariants.{Start, Record}
use Rattle.disk.specs.declared.record.Trace.{Trace}
use Rattle.disk.proofs.RecordLemmas.{placed}
use Rattle.disk.proofs.Widths.{place_none, all_further, same_width, same_handed_width}

-- bytes that are added leave those before
pub bytes_more : (start written more : List ℕ) (s : ℕ) (p : Place) → IsPlaced (length written) p → bytes_at start (written ++ more) s p ≡ bytes_at start written s p
bytes_more start written more s Start here = refl
bytes_more start written more s (Record at) here =
    sym (drop-take at 512 (written ++ more)) ∙ ap (λ (l : List ℕ). drop at l) (take-append-le (at + 512) written more here) ∙ drop-take at 512 written

pub place_some : (span : Span) (i : ℕ) → i < span.sectors → place_in span (span.first + i) ≡ Some (Record (span.from + 512 * i))
place_some span i below =
    let same : span.first + i - span.first ≡ i = omega arith in
    let inside : (nat_le span.first (span.first + i) && nat_lt (span.first + i - span.first) span.sectors) ≡ true = grind (arith, nat_tests) in
    (λ j. if inside j then Some (Record (span.from + 512 * same j)) else None)

-- what a call leaves of a sector that it does not touch
pub record Leaves (call : Call) (s : ℕ) : Type 0 where
  pub last : (t : Trace) → (trace_next s t call).last ≡ t.last
  pub closed : (t : Trace) → t.is_open ≡ false → (trace_next s t call).is_open ≡ false

pub leaves_quiet : (s : ℕ) → Leaves Quiet s
leaves_quiet s = record { last = λ t. refl; closed = λ t shut. shut }

pub leaves_synced : (s : ℕ) → Leaves Synced s
leaves_synced s = record { last = λ t. refl; closed = λ t shut. refl }

pub leaves_written : (span : Span) (s : ℕ) → Outside span.first (512 * span.sectors) s → Leaves (Written span) s
leaves_written span s out = record {
  last = λ t. ap (λ (o : Option Place). (trace_written t o).last) (place_none span s out);
  closed = λ t shut. ap (λ (o : Option Place). (trace_written t o).is_open) (place_none span s out) ∙ shut;
}

pub leaves_torn : (span : Span) (s : ℕ) → Outside span.first (512 * span.sectors) s → Leaves (Torn span) s
leaves_torn span s out = record {
  last = λ t. ap (λ (o : Option Place). (trace_torn t o).last) (place_none span s out);
  closed = λ t shut. ap (λ (o : Option Place). (trace_torn t o).is_open) (place_none span s out) ∙ shut;
}

-- of the sectors that so many bytes fill
pub leaves_written_bytes : (span : Span) (size s : ℕ) → size ≡ 512 * span.sectors → Outside span.first size s → Leaves (Written span) s
leaves_written_bytes span size s whole out = leaves_written span s (subst (λ (n : ℕ). Outside span.first n s) whole out)

pub leaves_torn_bytes : (span : Span) (size s : ℕ) → size ≡ 512 * span.sectors → Outside span.first size s → Leaves (Torn span) s
leaves_torn_bytes span size s whole out = leaves_torn span s (subst (λ (n : ℕ). Outside span.first n s) whole out)

module _ (sectors : ℕ) (start written more : List ℕ) (calls : List Call) (call : Call) (within : All (IsWithin sectors (length written)) calls)
    (size : length start ≡ 512 * sectors) (next : IsWithin sectors (length (written ++ more)) call) where
  -- earlier moments stay as they were
  pub earlier : (k : ℕ) → k ≤ length calls → platter_of start (written ++ more) (take k (calls ++ call ∷ [])) ≡ platter_of start written (take k calls)
  earlier k le =
      ap (λ (l : List Call). platter_of start (written ++ more) l) (take-append-le k calls (call ∷ []) le)
      ∙ (λ i. record {
        contents = λ s. bytes_more start written more s (trace_of s (take k calls)).last (placed sectors (length written) s (take k calls) (All-take (IsWithin sectors (length written)) k calls within)).last i;
        is_open = λ s. (trace_of s (take k calls)).is_open;
      })

  -- what is reported after the call
  pub reported : (s k : ℕ) → length calls < k → trace_of s (take k (calls ++ call ∷ [])) ≡ trace_next s (trace_of s (take (length calls) calls)) call
  reported s k past =
      ap (λ (l : List Call). trace_of s l) (take_all k (calls ++ call ∷ []) (omega (arith, length-append calls (call ∷ []))))
      ∙ fold_push (trace_next s) trace_start calls call
      ∙ ap (λ (l : List Call). trace_next s (trace_of s l) call) (sym (take_all (length calls) calls (omega arith)))

  pub touched : (first bytes faults faults' : ℕ) → ((s : ℕ) → Outside first bytes s → Leaves call s)
      → Touches first bytes (state_of sectors faults start written calls) (state_of sectors faults' start (written ++ more) (calls ++ call ∷ []))
  touched first bytes faults faults' leaves = record {
    later = omega (arith, length-append calls (call ∷ []));
    kept = earlier;
    since = λ k from to. ⊎_elim
        (λ (past : length calls < k). record {
          contents = λ s out.
              ap (λ (t : Trace). bytes_at start (written ++ more) s t.last) (reported s k past)
              ∙ ap (λ (p : Place). bytes_at start (written ++ more) s p) ((leaves s out).last (trace_of s (take (length calls) calls)))
              ∙ bytes_more start written more s (trace_of s (take (length calls) calls)).last (placed sectors (length written) s (take (length calls) calls) (All-take (IsWithin sectors (length written)) (length calls) calls within)).last;
          closed = λ s out shut. ap (λ (t : Trace). t.is_open) (reported s k past) ∙ (leaves s out).closed (trace_of s (take (length calls) calls)) shut;
          whole = λ s.
              ap (λ (l : List Call). length (bytes_at start (written ++ more) s (trace_of s l).last)) (take_all k (calls ++ call ∷ []) (omega (arith, length-append calls (call ∷ []))))
              ∙ sym (same_width sectors start written (written ++ more) calls (calls ++ call ∷ []) size within
              (All-push (IsWithin sectors (length (written ++ more))) calls call (all_further sectors (length written) (length (written ++ more)) calls (omega (arith, length-append written more)) within) next) s)
              ∙ ap (λ (l : List Call). length (bytes_at start written s (trace_of s l).last)) (sym (take_all (length calls) calls (omega arith)));
        })
        (λ (le : k ≤ length calls).
        let same : length calls ≡ k = omega arith in
        let S : Platter → Type 0 = λ p. SameOutside first bytes (platter_of start written (take (length calls) calls)) p in
        subst S (ap (λ (n : ℕ). platter_of start written (take n calls)) same ∙ sym (earlier k le)) (record { contents = λ s out. refl; closed = λ s out shut. shut; whole = λ s. refl }))
        (cases_lt (length calls) k);
  }

-- the same, where the new record is known by equations
pub touches_to : (first size width sectors faults faults' : ℕ) (start written more : List ℕ) (calls : List Call) (call : Call) (sectors' : ℕ) (start' written' : List ℕ) (calls' : List Call)
    → All (IsWithin sectors width) calls → width ≡ length written → length start ≡ 512 * sectors → IsWithin sectors (width + length more) call
    → ((s : ℕ) → Outside first size s → Leaves call s)
    → sectors' ≡ sectors → start' ≡ start → written' ≡ written ++ more → calls' ≡ calls ++ call ∷ []
    → Touches first size (state_of sectors faults start written calls) (state_of sectors' faults' start' written' calls')
touches_to first size width sectors faults faults' start written more calls call sectors' start' written' calls' within wide whole next leaves e0 e1 e2 e3 =
    let T : ℕ → List ℕ → List ℕ → List Call → Type 0 = λ n a b c. Touches first size (state_of sectors faults start written calls) (state_of n faults' a b c) in
    let t0 : T sectors start (written ++ more) (calls ++ call ∷ []) = touched sectors start written more calls call (subst (λ (n : ℕ). All (IsWithin sectors n) calls) wide within)
    whole (subst (λ (n : ℕ). IsWithin sectors n call) (omega (arith, wide, length-append written more)) next) first size faults faults' leaves in
    let t1 : T sectors start (written ++ more) calls' = subst (λ (c : List Call). T sectors start (written ++ more) c) (sym e3) t0 in
    let t2 : T sectors start written' calls' = subst (λ (b : List ℕ). T sectors start b calls') (sym e2) t1 in
    let t3 : T sectors start' written' calls' = subst (λ (a : List ℕ). T sectors a written' calls') (sym e1) t2 in
    subst (λ (n : ℕ). T n start' written' calls') (sym e0) t3

pub within_quiet : (sectors written : ℕ) → IsWithin sectors written Quiet
within_quiet sectors written = record { below = omega arith; bytes = omega arith }

pub within_synced : (sectors written : ℕ) → IsWithin sectors written Synced
within_synced sectors written = record { below = omega arith; bytes = omega arith }

-- a call that hands in nothing and leaves every sector
pub quiet_to : (first size width sectors faults faults' : ℕ) (start written : List ℕ) (calls : List Call) (call : Call) (sectors' : ℕ) (start' written' : List ℕ) (calls' : List Call)
    → All (IsWithin sectors width) calls → width ≡ length written → length start ≡ 512 * sectors
    → ((s : ℕ) → Leaves call s) → IsWithin sectors width call
    → sectors' ≡ sectors → start' ≡ start → written' ≡ written ++ [] → calls' ≡ calls ++ call ∷ []
    → Touches first size (state_of sectors faults start written calls) (state_of sectors' faults' start' written' calls')
quiet_to first size width sectors faults faults' start written calls call sectors' start' written' calls' within wide whole leaves next e0 e1 e2 e3 =
    touches_to first size width sectors faults faults' start written [] calls call sectors' start' written' calls' within wide whole
    (subst (λ (n : ℕ). IsWithin sectors n call) (omega arith) next) (λ s out. leaves s) e0 e1 e2 e3

-- calls that hand in nothing and leave every sector
abbrev pub MovesNothing : Call → Type 0
MovesNothing Quiet = Unit {0}
MovesNothing Synced = Unit {0}
MovesNothing (Written span) = ⊥
MovesNothing (Torn span) = ⊥

leaves_still : (call : Call) → MovesNothing call → (s : ℕ) → Leaves call s
leaves_still Quiet moves s = leaves_quiet s
leaves_still Synced moves s = leaves_synced s
leaves_still (Written span) moves s = absurd moves
leaves_still (Torn span) moves s = absurd moves

within_still : (sectors written : ℕ) (call : Call) → MovesNothing call → IsWithin sectors written call
within_still sectors written Quiet moves = within_quiet sectors written
within_still sectors written Synced moves = within_synced sectors written
within_still sectors written (Written span) moves = absurd moves
within_still sectors written (Torn span) moves = absurd moves

-- a call that was noted, and moves nothing, leaves the medium
pub noted_still : {call : Call} {old new : Recording} → IsNoted call [] old new → IsRecording old → MovesNothing call → Touches 0 0 (memory_state old) (memory_state new)
noted_still {call} {old} {new} noted kept moves =
    quiet_to 0 0 (length old.written) old.sectors old.faults new.faults old.start old.written old.calls call new.sectors new.start new.written new.calls
    kept.recorded refl kept.whole (leaves_still call moves) (within_still old.sectors (length old.written) call moves) noted.sectors noted.start noted.written noted.calls

-- a write that succeeded gives the bytes handed in
pub written_holds : (start written bytes : List ℕ) (calls : List Call) (span : Span) (start' written' : List ℕ) (calls' : List Call)
    → span.from ≡ length written → length bytes ≡ 512 * span.sectors
    → start' ≡ start → written' ≡ written ++ bytes → calls' ≡ calls ++ Written span ∷ []
    → Holds (platter_of start' written' (take (length calls') calls')).contents span.first bytes
written_holds start written bytes calls span start' written' calls' from size e1 e2 e3 i inside =
    let below : i < span.sectors = omega arith in
    let long : length calls < length calls' = omega (arith, ap length e3, length-append calls (Written span ∷ [])) in
    let t : Trace = trace_of (span.first + i) calls in
    let all : trace_of (span.first + i) (take (length calls') calls') ≡ trace_next (span.first + i) t (Written span) =
    ap (λ (l : List Call). trace_of (span.first + i) l) (take_all (length calls') calls' (omega arith) ∙ e3) ∙ fold_push (trace_next (span.first + i)) trace_start calls (Written span) in
    let here : (trace_next (span.first + i) t (Written span)).last ≡ Record (span.from + 512 * i) = ap (λ (o : Option Place). (trace_written t o).last) (place_some span i below) in
    ap (λ (u : Trace). bytes_at start' written' (span.first + i) u.last) all
    ∙ ap (λ (p : Place). bytes_at start' written' (span.first + i) p) here
    ∙ (λ j. take 512 (drop (from j + 512 * i) (e2 j)))
    ∙ ap (λ (l : List ℕ). take 512 l) (drop-append-add written bytes (512 * i))

-- what was handed in is known after a write, whether it succeeded or not
pub hands_written : (span : Span) (s : ℕ) (t : Trace) (place : Place) → place_in span s ≡ Some place → (trace_next s t (Written span)).handed ≡ place
hands_written span s t place is = ap (λ (o : Option Place). (trace_written t o).handed) is ∙ refl

pub hands_torn : (span : Span) (s : ℕ) (t : Trace) (place : Place) → place_in span s ≡ Some place → (trace_next s t (Torn span)).handed ≡ place
hands_torn span s t place is = ap (λ (o : Option Place). (trace_torn t o).handed) is ∙ refl

pub handed_holds : (start written bytes : List ℕ) (calls : List Call) (call : Call) (span : Span) (start' written' : List ℕ) (calls' : List Call)
    → ((s : ℕ) (t : Trace) (place : Place) → place_in span s ≡ Some place → (trace_next s t call).handed ≡ place)
    → span.from ≡ length written → length bytes ≡ 512 * span.sectors
    → written' ≡ written ++ bytes → calls' ≡ calls ++ call ∷ []
    → Holds (λ s. bytes_at start' written' s (trace_of s calls').handed) span.first bytes
handed_holds start written bytes calls call span start' written' calls' hands from size e2 e3 i inside =
    let s : ℕ = span.first + i in
    let below : i < span.sectors = omega arith in
    let all : trace_of s calls' ≡ trace_next s (trace_of s calls) call = ap (λ (l : List Call). trace_of s l) e3 ∙ fold_push (trace_next s) trace_start calls call in
    ap (λ (u : Trace). bytes_at start' written' s u.handed) all
    ∙ ap (λ (p : Place). bytes_at start' written' s p) (hands s (trace_of s calls) (Record (span.from + 512 * i)) (place_some span i below))
    ∙ (λ j. take 512 (drop (from j + 512 * i) (e2 j)))
    ∙ ap (λ (l : List ℕ). take 512 l) (drop-append-add written bytes (512 * i))

pub same_handed_written : (span : Span) (size s : ℕ) → size ≡ 512 * span.sectors → Outside span.first size s → (t : Trace) → (trace_next s t (Written span)).handed ≡ t.handed
same_handed_written span size s whole out t = ap (λ (o : Option Place). (trace_written t o).handed) (place_none span s (subst (λ (n : ℕ). Outside span.first n s) whole out)) ∙ refl

pub same_handed_torn : (span : Span) (size s : ℕ) → size ≡ 512 * span.sectors → Outside span.first size s → (t : Trace) → (trace_next s t (Torn span)).handed ≡ t.handed
same_handed_torn span size s whole out t = ap (λ (o : Option Place). (trace_torn t o).handed) (place_none span s (subst (λ (n : ℕ). Outside span.first n s) whole out)) ∙ refl

-- elsewhere it is what it was
pub others_handed : (first size width sectors : ℕ) (start written more : List ℕ) (calls : List Call) (call : Call) (start' written' : List ℕ) (calls' : List Call)
    → All (IsWithin sectors width) calls → width ≡ length written → length start ≡ 512 * sectors → IsWithin sectors (width + length more) call
    → ((s : ℕ) → Outside first size s → (t : Trace) → (trace_next s t call).handed ≡ t.handed)
    → start' ≡ start → written' ≡ written ++ more → calls' ≡ calls ++ call ∷ []
    → SameBut first size (λ s. bytes_at start written s (trace_of s calls).handed) (λ s. bytes_at start' written' s (trace_of s calls').handed)
others_handed first size width sectors start written more calls call start' written' calls' within wide whole next same e1 e2 e3 = record {
  same = λ s out.
      let all : trace_of s calls' ≡ trace_next s (trace_of s calls) call = ap (λ (l : List Call). trace_of s l) e3 ∙ fold_push (trace_next s) trace_start calls call in
      ap (λ (u : Trace). bytes_at start' written' s u.handed) all
      ∙ ap (λ (p : Place). bytes_at start' written' s p) (same s out (trace_of s calls))
      ∙ (λ j. bytes_at (e1 j) (e2 j) s (trace_of s calls).handed)
      ∙ bytes_more start written more s (trace_of s calls).handed (placed sectors (length written) s calls (subst (λ (n : ℕ). All (IsWithin sectors n) calls) wide within)).handed;
  whole = λ s.
      let before = subst (λ (n : ℕ). All (IsWithin sectors n) calls) wide within in
      let last = subst (λ (n : ℕ). IsWithin sectors n call) (omega (arith, wide, length-append written more)) next in
      (λ j. length (bytes_at (e1 j) (e2 j) s (trace_of s (e3 j)).handed))
      ∙ sym (same_handed_width sectors start written (written ++ more) calls (calls ++ call ∷ []) whole before
      (All-push (IsWithin sectors (length (written ++ more))) calls call (all_further sectors (length written) (length (written ++ more)) calls (omega (arith, length-append written more)) before) last) s);
}

torn_last : (t : Trace) (o : Option Place) → (trace_torn t o).last ≡ t.last
torn_last t None = refl
torn_last t (Some place) = refl

-- a write that failed leaves the old bytes
pub torn_contents : (width sectors : ℕ) (start written more : List ℕ) (calls : List Call) (span : Span) (start' written' : List ℕ) (calls' : List Call)
    → All (IsWithin sectors width) calls → width ≡ length written
    → start' ≡ start → written' ≡ written ++ more → calls' ≡ calls ++ Torn span ∷ []
    → (s : ℕ) → bytes_at start' written' s (trace_of s (take (length calls') calls')).last ≡ bytes_at start written s (trace_of s (take (length calls) calls)).last
torn_contents width sectors start written more calls span start' written' calls' within wide e1 e2 e3 s =
    let all : trace_of s (take (length calls') calls') ≡ trace_next s (trace_of s calls) (Torn span) =
    ap (λ (l : List Call). trace_of s l) (take_all (length calls') calls' (omega arith) ∙ e3) ∙ fold_push (trace_next s) trace_start calls (Torn span) in
    ap (λ (u : Trace). bytes_at start' written' s u.last) all
    ∙ ap (λ (p : Place). bytes_at start' written' s p) (torn_last (trace_of s calls) (place_in span s))
    ∙ (λ j. bytes_at (e1 j) (e2 j) s (trace_of s calls).last)
    ∙ bytes_more start written more s (trace_of s calls).last (placed sectors (length written) s calls (subst (λ (n : ℕ). All (IsWithin sectors n) calls) wide within)).last
    ∙ ap (λ (l : List Call). bytes_at start written s (trace_of s l).last) (sym (take_all (length calls) calls (omega arith)))
