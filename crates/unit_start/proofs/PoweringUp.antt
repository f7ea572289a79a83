-- What a power-up promises, put together.
use Rattle.std.proofs.Common.{◌≡◌, ◌⊎◌, inl, inr, ℕ, ℤ, ◌+◌, ◌%◌, ◌^◌, ◌<◌, ◌≤◌, Bool, false, List, [], ◌∷◌, Option, IsTrue, ◌∙◌, refl, subst}
use Rattle.std.specs.Prelude.{if◌then◌else◌, Result, Ok, Err, IfErr, OnOk}
use Rattle.blocks.specs.Heads.{last_number}
use Rattle.disk.specs.State.{State, now, contents_of, Counted, IsImage, AtEachMoment}
use Rattle.events.specs.declared.input.Event.{Event}
use Rattle.events.specs.declared.input.Event.TheVariants.{PowerUp}
use Rattle.journal.specs.JournalState.{JournalState}
use Rattle.journal.specs.Journals.{IsOpen}
use Rattle.journal.specs.declared.opening.Found.{Found}
use Rattle.kernel.specs.StandsFor.{Knowledge}
use Rattle.mode_table.specs.declared.statuses.Cold.{Cold}
use Rattle.ring.specs.Account.{Account}
use Rattle.ring.specs.Slots.{StandsFor}
use Rattle.speed_profile.specs.declared.reported.CategorySpeeds.{CategorySpeeds}
use Rattle.track_store.specs.Segments.{Segmented}
use Rattle.unit_start.specs.Answers.{is_device, is_met, is_worn}
use Rattle.unit_start.specs.Events.{account_of, record_of, Knows}
use Rattle.unit_start.specs.Lives.{IsRecordedCold, IsReady, Opens, IsFoundIn, IsOpenRefusal, HasNoCause}
use Rattle.unit_start.specs.PowersUp.{parts_after, IsAnswerTo, Continues, PowersUp}
use Rattle.unit_start.specs.UnitState.{PartsState, initial}
use Rattle.unit_start.specs.Written.{HasNewest}
use Rattle.unit_start.specs.declared.errors.OpenError.{OpenError}
use Rattle.unit_start.specs.declared.errors.OpenError.TheVariants.{NoMemory}
use Rattle.unit_start.proofs.Fresh.{fresh}
use Rattle.unit_start.proofs.Greatest.{no_cause}
use Rattle.unit_start.proofs.InParts.{exact_or_memory}
use Rattle.unit_start.proofs.Lists.{length_records}
use Rattle.unit_start.proofs.Opening.{worn_as, settles, opens_found}

-- calls after others that didn't fail
pub counted_on : (failed : Bool) (old mid new : State) → Counted false old mid → Counted failed mid new → Counted failed old new
counted_on failed old mid new one other = record {
  sectors = other.sectors ∙ one.sectors;
  honest = other.honest ∙ one.honest;
  faults = (let F : ℕ → Type 0 = λ n. new.faults ≡ (if failed then (n + 1) % 2 ^ 64 else n) in subst F one.faults other.faults);
}

-- where each refusal has its cause, each cause has its refusal
pub answer_to : {T : Type 0} (sectors : ℕ) (image : ℕ → List ℕ) (r : Result T OpenError) → IfErr r (λ e. (e ≡ NoMemory) ⊎ IsOpenRefusal sectors image e) → OnOk r (HasNoCause sectors image)
    → IsAnswerTo sectors image r
answer_to sectors image r refused none = record {
  refused = refused;
  no_cause = none;
  exact = λ some. exact_or_memory sectors image r some refused none;
}

-- what goes on where nothing was written
pub unwritten : (whole_from : ℕ) (durable accepted : List Event) (cold : Cold) (before after : State) (e : OpenError) → IsReady whole_from durable accepted before
    → AtEachMoment before after (IsImage (now before)) → after.sectors ≡ before.sectors
    → ((reported : Account) → StandsFor before.sectors reported (contents_of before) → IsTrue (is_met e) ⊎ (e ≡ NoMemory))
    → (let r : Result PartsState OpenError = Err e in Continues whole_from durable accepted cold before after r)
unwritten whole_from durable accepted cold before after e ready run same met =
    let settled = settles whole_from durable accepted before ready in
    record {
      found = settled.list;
      power_up_cold = cold;
      opens = opens_found whole_from durable accepted cold cold before after ready settled run same;
      opened = tt;
      ahead = tt;
      last = tt;
      recorded = tt;
      met = met (account_of whole_from settled.list) settled.describes;
    }

-- a power-up that was refused before it wrote
pub refused_unwritten : (cold : Cold) (before after : State) (e : OpenError) → Counted (is_device e) before after → (IsTrue before.honest → AtEachMoment before after (IsImage (now before)))
    → (IsTrue before.honest → (e ≡ NoMemory) ⊎ IsOpenRefusal before.sectors (contents_of before) e)
    → ((reported : Account) → IsTrue before.honest → StandsFor before.sectors reported (contents_of before) → IsTrue (is_met e) ⊎ (e ≡ NoMemory))
    → (let r : Result PartsState OpenError = Err e in PowersUp cold before after r)
refused_unwritten cold before after e counted run why met =
    let r : Result PartsState OpenError = Err e in
    record {
      counted = counted;
      sectors = tt;
      fresh = tt;
      next = λ honest. tt;
      nothing_added = λ honest none. run honest;
      answers = λ honest. answer_to before.sectors (contents_of before) r (why honest) tt;
      up = λ whole_from durable accepted honest ready.
          unwritten whole_from durable accepted cold before after e ready (run honest) counted.sectors (λ reported stands. met reported honest stands);
    }

-- the answers of a power-up that was put, or refused by the device or for want of a number
pub answers_put : {T : Type 0} (sectors : ℕ) (image : ℕ → List ℕ) (old : JournalState) (found : Option Found) → IsFoundIn sectors image old found → 2 ≤ old.slots → (new : JournalState) (state : Knowledge (Segmented ℤ) (Segmented CategorySpeeds))
    → (r : Result T OpenError) → IfErr r (λ e. IsTrue (is_met e)) → IfErr r (λ e. IsTrue (is_worn e) → last_number ≤ old.newest) → OnOk r (old.newest < last_number) → IsAnswerTo sectors image (parts_after r new state)
answers_put sectors image old found so two new state (Ok done) met worn space =
    let r : Result PartsState OpenError = Ok (record { journal = new; life = initial state new.events }) in
    answer_to sectors image r tt (no_cause sectors old.slots old.newest image found so.formatted.size so.greatest so.head two so.formatted space)
answers_put sectors image old found so two new state (Err e) met worn space =
    let r : Result PartsState OpenError = Err e in
    answer_to sectors image r (inr (worn_as sectors old.slots old.newest image found so.formatted so.greatest so.head e met worn)) tt

-- .. and what goes on
pub continues_put : {T : Type 0} (whole_from : ℕ) (durable accepted found : List Event) (cold recorded_cold : Cold) (before after : State) (journal : JournalState) (state : Knowledge (Segmented ℤ) (Segmented CategorySpeeds))
    → Opens whole_from durable accepted found cold recorded_cold before after → IsRecordedCold before.sectors (contents_of before) cold recorded_cold → Knows state (PowerUp recorded_cold ∷ found)
    → (r : Result T OpenError) → IfErr r (λ e. IsTrue (is_met e))
    → OnOk r (IsOpen journal (account_of whole_from (PowerUp recorded_cold ∷ found)) after × HasNewest after.sectors (record_of found (PowerUp recorded_cold) ∷ []) (PowerUp recorded_cold ∷ found) (contents_of after))
    → Continues whole_from durable accepted cold before after (parts_after r journal state)
continues_put whole_from durable accepted found cold recorded_cold before after journal state opens recorded stands (Ok done) met put =
    let events : List Event = PowerUp recorded_cold ∷ found in
    record {
      found = found;
      power_up_cold = recorded_cold;
      opens = opens;
      opened = put.0;
      ahead = fresh events (initial state journal.events) (put.0.events ∙ length_records events) stands refl refl refl;
      last = put.1;
      recorded = recorded;
      met = tt;
    }
continues_put whole_from durable accepted found cold recorded_cold before after journal state opens recorded stands (Err e) met put = record {
  found = found;
  power_up_cold = recorded_cold;
  opens = opens;
  opened = tt;
  ahead = tt;
  last = tt;
  recorded = tt;
  met = inl met;
}
