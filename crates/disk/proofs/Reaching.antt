-- Each image is settled to by some choices.
use Rattle.std.proofs.Common.{◌≡◌, ⊎_elim, subst, ℕ, suc, zero, ◌+◌, ◌*◌, ◌<◌, ◌≤◌, Bool, true, false, List, [], ◌∷◌, ◌++◌, length, take, get_or, refl, sym, ◌∙◌, ap, arith, length-append}
use Rattle.std.specs.Prelude.{All, if◌then◌else◌}
use Rattle.std.proofs.lemmas.List.Elements.{All-append, All-push, All-nil, All-get_or}
use Rattle.std.proofs.lemmas.List.{take_all, get_or_append_left, get_or_past, get_or_push}
use Rattle.std.proofs.lemmas.Bool.{cases_lt, cases_Bool, cond-true, cond-false, false≢true}
use Rattle.disk.specs.State.{State, Platter, sector_of, IsImage, now, contents_of, last_synced}
use Rattle.disk.specs.Record.{bytes_at, trace_of, state_of, IsWithin}
use Rattle.disk.specs.Choice.{choice_at, chosen, open_below, settled_sector, IsChoice, IsSector, HoldsBytes}
use Rattle.disk.specs.declared.choice.Choice.{Choice}
use Rattle.disk.specs.declared.choice.Choice.TheVariants.{Old, New, Given}
use Rattle.disk.specs.declared.record.Call.{Call}
use Rattle.disk.specs.declared.record.Place.{Place}
use Rattle.disk.proofs.RecordLemmas.{placed}
use Rattle.disk.proofs.Settling.{synced_is}
use Rattle.disk.proofs.Sectors.{sector_past, sector_whole}
use Rattle.disk.proofs.Widths.{past_end, width_at}

one_if : Bool → List ℕ → List Choice
one_if b bytes = if b then Given bytes ∷ [] else []

length-one_if : (b : Bool) (bytes : List ℕ) → length (one_if b bytes) ≡ (if b then 1 else 0)
unfolding one_if
length-one_if true bytes = refl
length-one_if false bytes = refl

-- what the image holds in each open sector below n, in rising order
choices_to : Platter → (ℕ → List ℕ) → ℕ → List Choice
choices_to p c zero = []
choices_to p c (suc s) = choices_to p c s ++ one_if (p.is_open s) (c s)

length-choices_to : (p : Platter) (c : ℕ → List ℕ) (n : ℕ) → length (choices_to p c n) ≡ open_below p n
unfolding choices_to
length-choices_to p c zero = refl
length-choices_to p c (suc s) = omega (arith, length-append (choices_to p c s) (one_if (p.is_open s) (c s)), length-choices_to p c s, length-one_if (p.is_open s) (c s))

-- an open sector adds one to those below
counted : (p : Platter) (s n : ℕ) → s < n → p.is_open s ≡ true → open_below p s < open_below p n
counted p s zero below ajar = absurd (omega arith)
counted p s (suc m) below ajar = ⊎_elim
    (λ (lt : s < m). omega (arith, counted p s m lt ajar))
    (λ (ge : m ≤ s).
    let same : s ≡ m = omega arith in
    let here : p.is_open m ≡ true = ap (λ (i : ℕ). p.is_open i) (sym same) ∙ ajar in
    let more : open_below p (suc m) ≡ open_below p m + 1 = ap (λ (b : Bool). open_below p m + (if b then 1 else 0)) here in
    omega (arith, more, ap (λ (i : ℕ). open_below p i) same))
    (cases_lt s m)

found : (p : Platter) (c : ℕ → List ℕ) (n s : ℕ) → s < n → p.is_open s ≡ true → choice_at (choices_to p c n) (open_below p s) ≡ Given (c s)
unfolding choices_to one_if
found p c zero s below ajar = absurd (omega arith)
found p c (suc m) s below ajar = ⊎_elim
    (λ (lt : s < m).
    let inside : open_below p s < length (choices_to p c m) = omega (arith, counted p s m lt ajar, length-choices_to p c m) in
    get_or_append_left (choices_to p c m) (one_if (p.is_open m) (c m)) Old (open_below p s) inside ∙ found p c m s lt ajar)
    (λ (ge : m ≤ s).
    let same : m ≡ s = omega arith in
    let here : p.is_open m ≡ true = ap (λ (i : ℕ). p.is_open i) same ∙ ajar in
    ap (λ (b : Bool). get_or (choices_to p c m ++ one_if b (c m)) (open_below p s) Old) here
    ∙ get_or_push (choices_to p c m) (Given (c m)) Old (open_below p s) (length-choices_to p c m ∙ ap (λ (i : ℕ). open_below p i) same)
    ∙ ap (λ (i : ℕ). Given (c i)) same)
    (cases_lt s m)

whole_more : (b : Bool) (choices : List Choice) (bytes : List ℕ) → All IsChoice choices → IsChoice (Given bytes) → All IsChoice (choices ++ one_if b bytes)
unfolding one_if
whole_more true choices bytes so here = All-push IsChoice choices (Given bytes) so here
whole_more false choices bytes so here = All-append IsChoice choices [] so (All-nil IsChoice)

all_whole : (p : Platter) (c : ℕ → List ℕ) (n : ℕ) → ((s : ℕ) → s < n → IsSector (c s)) → All IsChoice (choices_to p c n)
unfolding choices_to
all_whole p c zero whole = All-nil IsChoice
all_whole p c (suc s) whole =
    whole_more (p.is_open s) (choices_to p c s) (c s) (all_whole p c s (λ t below. whole t (omega arith))) (whole s (omega arith))

-- a choice of some that are well is well, and so is that past their end
chosen_well : (choices : List Choice) (i : ℕ) → All IsChoice choices → IsChoice (choice_at choices i)
chosen_well choices i so = ⊎_elim
    (λ (lt : i < length choices). All-get_or IsChoice choices i Old lt so)
    (λ (ge : length choices ≤ i). subst IsChoice (sym (get_or_past choices i Old ge)) tt)
    (cases_lt i (length choices))

module _ (sectors faults width : ℕ) (start written : List ℕ) (calls : List Call) (handed : ℕ → List ℕ) (within : All (IsWithin sectors width) calls)
    (size : length start ≡ 512 * sectors) (wide : width ≡ length written) where
  abbrev d : State
  d = state_of sectors faults start written calls

  open_within : (s : ℕ) → (now d).is_open s ≡ true → s < sectors
  open_within s ajar = ⊎_elim
      (λ (lt : s < sectors). lt)
      (λ (ge : sectors ≤ s).
      let same : (now d).is_open s ≡ (trace_of s calls).is_open = ap (λ (l : List Call). (trace_of s l).is_open) (take_all (length calls) calls (omega arith)) in
      absurd (false≢true (sym (past_end sectors width s calls within ge).1 ∙ sym same ∙ ajar)))
      (cases_lt s sectors)

  -- what the medium holds is whole sectors
  width_now : (s : ℕ) → s < sectors → length (contents_of d s) ≡ 512
  width_now s below =
      let within_written = subst (λ (n : ℕ). All (IsWithin sectors n) calls) wide within in
      ap (λ (l : List Call). length (bytes_at start written s (trace_of s l).last)) (take_all (length calls) calls (omega arith))
      ∙ width_at sectors start written s (trace_of s calls).last size below (placed sectors (length written) s calls within_written).last

  pub reached : (c : ℕ → List ℕ) → IsImage (now (state_of sectors faults start written calls)) c → HoldsBytes c
      → (choices : List Choice) × All IsChoice choices × ((s : ℕ) → settled_sector (state_of sectors faults start written calls) handed choices s ≡ c s)
  reached c image bytes = (
    choices_to (now d) c sectors,
    all_whole (now d) c sectors (λ s below. record { size = image.whole s ∙ width_now s below; bytes = bytes s }),
    λ s. ⊎_elim
        (λ (ajar : (now d).is_open s ≡ true).
        cond-true ((now d).is_open s) (chosen (last_synced d s) (handed s) (choice_at (choices_to (now d) c sectors) (open_below (now d) s))) (contents_of d s) ajar
        ∙ ap (λ (choice : Choice). chosen (last_synced d s) (handed s) choice) (found (now d) c sectors s (open_within s ajar) ajar))
        (λ (shut : (now d).is_open s ≡ false).
        cond-false ((now d).is_open s) (chosen (last_synced d s) (handed s) (choice_at (choices_to (now d) c sectors) (open_below (now d) s))) (contents_of d s) shut
        ∙ sym (image.shut s shut))
        (cases_Bool ((now d).is_open s)),
  )

  width_chosen : (s : ℕ) (choice : Choice) → s < sectors → IsChoice choice → length (handed s) ≡ 512 →
      length (chosen (last_synced d s) (handed s) choice) ≡ 512
  width_chosen s Old below so h =
      let within_written = subst (λ (n : ℕ). All (IsWithin sectors n) calls) wide within in
      ap length (synced_is start written calls s (length calls) (omega arith))
      ∙ ap (λ (l : List Call). length (bytes_at start written s (trace_of s l).synced)) (take_all (length calls) calls (omega arith))
      ∙ width_at sectors start written s (trace_of s calls).synced size below (placed sectors (length written) s calls within_written).synced
  width_chosen s New below so h = h
  width_chosen s (Given bytes) below so h = so.size

  pub settles : ((s : ℕ) → s < sectors → length (handed s) ≡ 512) → (choices : List Choice) → All IsChoice choices →
      IsImage (now (state_of sectors faults start written calls)) (settled_sector (state_of sectors faults start written calls) handed choices)
  settles hands choices so = record {
    shut = λ s shut. cond-false ((now d).is_open s) (chosen (last_synced d s) (handed s) (choice_at choices (open_below (now d) s))) (contents_of d s) shut;
    whole = λ s. ⊎_elim
        (λ (ajar : (now d).is_open s ≡ true).
        let below = open_within s ajar in
        ap length (cond-true ((now d).is_open s) (chosen (last_synced d s) (handed s) (choice_at choices (open_below (now d) s))) (contents_of d s) ajar)
        ∙ width_chosen s (choice_at choices (open_below (now d) s)) below (chosen_well choices (open_below (now d) s) so) (hands s below)
        ∙ sym (width_now s below))
        (λ (shut : (now d).is_open s ≡ false).
        ap length (cond-false ((now d).is_open s) (chosen (last_synced d s) (handed s) (choice_at choices (open_below (now d) s))) (contents_of d s) shut))
        (cases_Bool ((now d).is_open s));
  }

-- sectors that are made anew are as long as those of the medium
pub width_settled : (sectors width : ℕ) (start written : List ℕ) (calls : List Call) → length start ≡ 512 * sectors → width ≡ length written → All (IsWithin sectors width) calls →
    (after : List ℕ) → length after ≡ 512 * sectors → (s : ℕ) →
    length (sector_of after s) ≡ length (bytes_at start written s (trace_of s (take (length calls) calls)).last)
width_settled sectors width start written calls size wide within after whole s =
    let within_written = subst (λ (n : ℕ). All (IsWithin sectors n) calls) wide within in
    let now = ap (λ (l : List Call). length (bytes_at start written s (trace_of s l).last)) (take_all (length calls) calls (omega arith)) in
    ⊎_elim
    (λ (below : s < sectors).
    sector_whole after sectors s whole below
    ∙ sym (now ∙ width_at sectors start written s (trace_of s calls).last size below (placed sectors (length written) s calls within_written).last))
    (λ (past : sectors ≤ s).
    ap length (sector_past after sectors s whole past)
    ∙ sym (now ∙ ap (λ (p : Place). length (bytes_at start written s p)) (past_end sectors (length written) s calls within_written past).0
    ∙ ap length (sector_past start sectors s size past)))
    (cases_lt s sectors)
