-- What a cut leaves.
use Rattle.std.proofs.Common.{◌≡◌, ⊎_elim, ℕ, suc, zero, ◌+◌, ◌*◌, ◌<◌, ◌≤◌, Bool, true, false, List, [], ◌∷◌, ◌++◌, length, take, drop, get_or, refl, sym, ◌∙◌, ap, arith, add-one, Option, Some, None}
use Rattle.std.specs.Prelude.{fold, All, if◌then◌else◌}
use Rattle.std.proofs.lemmas.List.{take_all, take-append-le, drop_at, drop-take}
use Rattle.std.proofs.lemmas.Bool.{cases_lt, cases_Bool, cond-true, cond-false, false≢true}
use Rattle.disk.specs.State.{State, Platter, now, contents_of, sector_of, settled_at, last_synced}
use Rattle.disk.specs.Record.{bytes_at, place_in, trace_written, trace_torn, trace_next, trace_start, trace_of, platter_of, state_of, IsWithin}
use Rattle.disk.specs.Choice.{chosen, choice_at, open_below, settled_sector}
use Rattle.disk.specs.declared.choice.Choice.{Choice}
use Rattle.disk.specs.declared.record.Call.{Call}
use Rattle.disk.specs.declared.record.Call.TheVariants.{Quiet, Synced, Written, Torn}
use Rattle.disk.specs.declared.record.Place.{Place}
use Rattle.disk.specs.declared.record.Trace.{Trace}
use Rattle.disk.proofs.RecordLemmas.{trace_more}
use Rattle.disk.proofs.Sectors.{sector_past}
use Rattle.disk.proofs.Widths.{past_end}

-- a sector that is not open holds what was last synced
record IsKept (t : Trace) : Type 0 where
  same : t.is_open ≡ false → t.last ≡ t.synced

kept_written : (t : Trace) (o : Option Place) → IsKept t → IsKept (trace_written t o)
kept_written t None so = so
kept_written t (Some place) so = record { same = λ shut. absurd (false≢true (sym shut)) }

kept_torn : (t : Trace) (o : Option Place) → IsKept t → IsKept (trace_torn t o)
kept_torn t None so = so
kept_torn t (Some place) so = record { same = λ shut. absurd (false≢true (sym shut)) }

kept_next : (s : ℕ) (t : Trace) (call : Call) → IsKept t → IsKept (trace_next s t call)
kept_next s t Quiet so = so
kept_next s t Synced so = record { same = λ shut. refl }
kept_next s t (Written span) so = kept_written t (place_in span s) so
kept_next s t (Torn span) so = kept_torn t (place_in span s) so

kept_from : (s : ℕ) (t : Trace) (calls : List Call) → IsKept t → IsKept (fold (trace_next s) t calls)
kept_from s t [] so = so
kept_from s t (call ∷ calls) so = kept_from s (trace_next s t call) calls (kept_next s t call so)

kept_all : (s : ℕ) (calls : List Call) → IsKept (trace_of s calls)
kept_all s calls = kept_from s trace_start calls (record { same = λ shut. refl })

-- a call that leaves a sector open leaves what was last synced
stays_written : (t : Trace) (o : Option Place) → (trace_written t o).synced ≡ t.synced
stays_written t None = refl
stays_written t (Some place) = refl

stays_torn : (t : Trace) (o : Option Place) → (trace_torn t o).synced ≡ t.synced
stays_torn t None = refl
stays_torn t (Some place) = refl

synced_stays : (s : ℕ) (t : Trace) (call : Call) → (trace_next s t call).is_open ≡ true → (trace_next s t call).synced ≡ t.synced
synced_stays s t Quiet ajar = refl
synced_stays s t Synced ajar = absurd (false≢true ajar)
synced_stays s t (Written span) ajar = stays_written t (place_in span s)
synced_stays s t (Torn span) ajar = stays_torn t (place_in span s)

-- what a sector held when it was last not open is what a read gave at the last sync
pub synced_is : (start written : List ℕ) (calls : List Call) (s k : ℕ) → k ≤ length calls
    → settled_at (λ j. platter_of start written (take j calls)) s k ≡ bytes_at start written s (trace_of s (take k calls)).synced
synced_is start written calls s zero le = refl
synced_is start written calls s (suc k) le =
    let t : Trace = trace_of s (take (suc k) calls) in
    let more : t ≡ trace_next s (trace_of s (take k calls)) (get_or calls k Quiet) =
    ap (λ (n : ℕ). trace_of s (take n calls)) (sym (add-one k)) ∙ trace_more s calls k Quiet (get_or calls k Quiet) (omega arith) refl in
    let before : List ℕ = settled_at (λ j. platter_of start written (take j calls)) s k in
    ⊎_elim
    (λ (ajar : t.is_open ≡ true).
    cond-true t.is_open before (bytes_at start written s t.last) ajar
    ∙ synced_is start written calls s k (omega arith)
    ∙ ap (λ (p : Place). bytes_at start written s p) (sym (synced_stays s (trace_of s (take k calls)) (get_or calls k Quiet) (ap (λ (u : Trace). u.is_open) (sym more) ∙ ajar)))
    ∙ ap (λ (u : Trace). bytes_at start written s u.synced) (sym more))
    (λ (shut : t.is_open ≡ false).
    cond-false t.is_open before (bytes_at start written s t.last) shut
    ∙ ap (λ (p : Place). bytes_at start written s p) ((kept_all s (take (suc k) calls)).same shut))
    (cases_Bool t.is_open)

module _ (sectors faults : ℕ) (start written : List ℕ) (calls : List Call) (s : ℕ) where
  abbrev d : State
  d = state_of sectors faults start written calls

  whole : trace_of s (take (length calls) calls) ≡ trace_of s calls
  whole = ap (λ (l : List Call). trace_of s l) (take_all (length calls) calls (omega arith))

  -- what stands at a place is what a sector that is not open holds
  pub after_shut : (t : Trace) (other : List ℕ) → t ≡ trace_of s calls → t.is_open ≡ false
      → bytes_at start written s t.last ≡ (if (trace_of s (take (length calls) calls)).is_open then other else contents_of (state_of sectors faults start written calls) s)
  after_shut t other is shut =
      let same : trace_of s (take (length calls) calls) ≡ t = whole ∙ sym is in
      ap (λ (u : Trace). bytes_at start written s u.last) (sym same)
      ∙ sym (cond-false (trace_of s (take (length calls) calls)).is_open other (contents_of d s) (ap (λ (u : Trace). u.is_open) same ∙ shut))

  -- or what is chosen for one that is open
  pub after_open : (t : Trace) (bytes shut handed : List ℕ) (choice : Choice) → t ≡ trace_of s calls → t.is_open ≡ true
      → bytes ≡ chosen (bytes_at start written s t.synced) handed choice
      → bytes ≡ (if (trace_of s (take (length calls) calls)).is_open then chosen (last_synced (state_of sectors faults start written calls) s) handed choice else shut)
  after_open t bytes shut handed choice is ajar here =
      let same : trace_of s (take (length calls) calls) ≡ t = whole ∙ sym is in
      let old : last_synced d s ≡ bytes_at start written s t.synced = synced_is start written calls s (length calls) (omega arith) ∙ ap (λ (u : Trace). bytes_at start written s u.synced) same in
      here ∙ ap (λ (b : List ℕ). chosen b handed choice) (sym old)
      ∙ sym (cond-true (trace_of s (take (length calls) calls)).is_open (chosen (last_synced d s) handed choice) shut (ap (λ (u : Trace). u.is_open) same ∙ ajar))

-- one sector more is counted, if it is open
pub open_yes : (p : Platter) (s : ℕ) → p.is_open s ≡ true → open_below p (s + 1) ≡ open_below p s + 1
open_yes p s ajar = ap (λ (n : ℕ). open_below p n) (add-one s) ∙ ap (λ (b : Bool). open_below p s + (if b then 1 else 0)) ajar

pub open_no : (p : Platter) (s : ℕ) → p.is_open s ≡ false → open_below p (s + 1) ≡ open_below p s
open_no p s shut =
    let same : open_below p s + 0 ≡ open_below p s = omega arith in
    ap (λ (n : ℕ). open_below p n) (add-one s) ∙ ap (λ (b : Bool). open_below p s + (if b then 1 else 0)) shut ∙ same

-- one sector more is settled
pub settled_more : (after new bytes : List ℕ) (i : ℕ) (content : ℕ → List ℕ) → new ≡ after ++ bytes → length after ≡ 512 * i → length bytes ≡ 512 → bytes ≡ content i
    → ((s : ℕ) → s < i → sector_of after s ≡ content s)
    → (s : ℕ) → s < i + 1 → sector_of new s ≡ content s
settled_more after new bytes i content is size width here so_far s below =
    ap (λ (l : List ℕ). sector_of l s) is
    ∙ ⊎_elim
    (λ (lt : s < i).
    sym (drop-take (512 * s) 512 (after ++ bytes))
    ∙ ap (λ (l : List ℕ). drop (512 * s) l) (take-append-le (512 * s + 512) after bytes (omega arith))
    ∙ drop-take (512 * s) 512 after ∙ so_far s lt)
    (λ (ge : i ≤ s).
    let same : s ≡ i = omega arith in
    let at : length after ≡ 512 * s = omega arith in
    ap (λ (l : List ℕ). take 512 l) (drop_at after bytes (512 * s) at) ∙ take_all 512 bytes (omega arith)
    ∙ here ∙ ap content (sym same))
    (cases_lt s i)

-- past the end a cut leaves nothing
pub settled_past : (sectors faults width : ℕ) (start written : List ℕ) (calls : List Call) (handed : ℕ → List ℕ) (choices : List Choice) (s : ℕ)
    → All (IsWithin sectors width) calls → length start ≡ 512 * sectors → sectors ≤ s → settled_sector (state_of sectors faults start written calls) handed choices s ≡ []
settled_past sectors faults width start written calls handed choices s within size past =
    let d : State = state_of sectors faults start written calls in
    let none = past_end sectors width s calls within past in
    let same : trace_of s (take (length calls) calls) ≡ trace_of s calls = ap (λ (l : List Call). trace_of s l) (take_all (length calls) calls (omega arith)) in
    cond-false (trace_of s (take (length calls) calls)).is_open (chosen (last_synced d s) (handed s) (choice_at choices (open_below (now d) s))) (contents_of d s) (ap (λ (t : Trace). t.is_open) same ∙ none.1)
    ∙ ap (λ (t : Trace). bytes_at start written s t.last) same
    ∙ ap (λ (p : Place). bytes_at start written s p) none.0
    ∙ sector_past start sectors s size past

-- what a disk holds whose record is empty
pub fresh_contents : (start written : List ℕ) (calls : List Call) (s : ℕ) → calls ≡ [] → bytes_at start written s (trace_of s (take (length calls) calls)).last ≡ sector_of start s
fresh_contents start written calls s none = ap (λ (l : List Call). bytes_at start written s (trace_of s (take (length l) l)).last) none

-- all sectors are settled
pub settled_all : (after : List ℕ) (sectors : ℕ) (content : ℕ → List ℕ) → length after ≡ 512 * sectors → ((s : ℕ) → s < sectors → sector_of after s ≡ content s) → ((s : ℕ) → sectors ≤ s → content s ≡ [])
    → (s : ℕ) → sector_of after s ≡ content s
settled_all after sectors content size each none s = ⊎_elim
    (λ (lt : s < sectors). each s lt)
    (λ (ge : sectors ≤ s). sector_past after sectors s size ge ∙ sym (none s ge))
    (cases_lt s sectors)
