-- A life on a journal: what it releases, how it ends, and for what its disk is ready.
use Rattle.std.proofs.Common.{◌≡◌, ◌⊎◌, inl, inr, ⊎_elim, ℕ, ◌≤◌, IsTrue, List, [], ◌∷◌, ◌++◌, length, take, Result, Ok, Err, true, refl, sym, ◌∙◌, ap, subst, arith, append-nil}
use Rattle.blocks.specs.FirstSector.{sectors_of}
use Rattle.disk.specs.State.{State, now, contents_of, IsImage, Touches, SameOpen}
use Rattle.events.specs.declared.input.Event.{Event}
use Rattle.events.specs.declared.input.Event.TheVariants as an_event
use Rattle.events.specs.declared.step.Step.{Step}
use Rattle.mode_table.specs.declared.statuses.Cold.{Cold}
use Rattle.onboard.specs.Progress.{starting_with}
use Rattle.ring.specs.Scans.{IsNewest}
use Rattle.ring.specs.Slots.{valid_at, IsAtRest}
use Rattle.ring.proofs.Numbers.{same_newest}
use Rattle.ring.proofs.Rest.{at_rest}
use Rattle.unit_start.specs.Events.{account_of, pairs_of}
use Rattle.unit_start.specs.Lives.{IsReady, IsRecordedCold, IsBlank, IsNextNumber, DescribesEither}
use Rattle.unit_start.specs.Releases.{Release}
use Rattle.whole_lives.specs.Runs.{Lives, durable_by, NothingReleased}
use Rattle.whole_lives.specs.Stops.{AllStand, Stopped, LifeEnds, OnlyOpens, IsUnopened, AreAfter, IsDone}
use Rattle.whole_lives.specs.Written.{LeavesLast}
use Rattle.whole_lives.specs.declared.errors.LiveError.{LiveError}
use Rattle.whole_lives.specs.declared.errors.LiveError.TheVariants as a_live
use Rattle.scenario_player.specs.Playing.{IsEmpty, is_refusal, is_played, carried_out, PlayEnds, IsPlayed, IsPlayedAfter, StaysReady}
use Rattle.scenario_player.proofs.Releasing.{initial, nothing_durable}

-- ---- how a life ends

-- where it was played
pub ends_after : (disk : State) → IsTrue disk.honest → (steps : List Step) (ended : Result (Unit {0}) LiveError) → is_played ended ≡ true → LifeEnds disk steps ended
    → (number : ℕ) × IsNextNumber disk.sectors (contents_of disk) number × PlayEnds number steps ended
ends_after disk honest steps (Ok x) played how = ⊎_elim
    (λ (unopened : IsUnopened disk (Ok x)). absurd (let clash = unopened.1 in cc))
    (λ (opened : (newest : ℕ) × (IsTrue disk.honest → IsNextNumber disk.sectors (contents_of disk) newest) × AllStand (starting_with newest) steps).
    (opened.0, opened.1 honest, opened.2))
    how
ends_after disk honest steps (Err error) played how = ⊎_elim
    (λ (unopened : IsUnopened disk (Err error)).
    let same : error ≡ a_live.Open unopened.0 = (let e : Err error ≡ Err (a_live.Open unopened.0) = unopened.1 in cc) in
    absurd (let clash : is_refusal (a_live.Open unopened.0) ≡ true = sym (ap is_refusal same) ∙ played in cc))
    (λ (opened : (newest : ℕ) × (IsTrue disk.honest → IsNextNumber disk.sectors (contents_of disk) newest) × Stopped (starting_with newest) steps error).
    (opened.0, opened.1 honest, (played, opened.2)))
    how

-- ---- an empty journal

module _ (slots : ℕ) (two : 2 ≤ slots) (disk : State) (empty : IsEmpty slots disk) where
  abbrev its_rest : IsAtRest slots 0 (account_of 0 []) disk
  its_rest = empty.rest (account_of 0 []) (refl, refl)

  pub size : disk.sectors ≡ sectors_of slots
  size = its_rest.formatted.size

  -- it is ready for a first life
  pub ready : IsReady 0 [] [] disk
  ready = record { more = []; begins = refl; each = λ c image. inl (at_rest slots 0 (account_of 0 []) disk its_rest c image) }

  no_newest : IsNewest slots (valid_at slots (contents_of disk)) 0
  no_newest = record { each = λ slot valid below at. (its_rest.ring.each slot valid below at).at_most; found = inl refl }

  blank : IsBlank disk.sectors (contents_of disk)
  blank = (slots, its_rest.formatted.size, no_newest)

  -- a power-up comes into block 1
  first_number : (number : ℕ) → IsNextNumber disk.sectors (contents_of disk) number → number ≡ 1
  first_number number (others, greatest, size, newest, is) =
      let slots_are : others ≡ slots = omega (arith, size, its_rest.formatted.size) in
      let N : ℕ → Type 0 = λ s. IsNewest s (valid_at s (contents_of disk)) greatest in
      let none : greatest ≡ 0 = same_newest slots (valid_at slots (contents_of disk)) 0 greatest (account_of 0 []) two its_rest.ring (subst N slots_are newest) in
      omega (arith, is, none)

  -- how it ends, where it was played
  pub ends : (honest : IsTrue disk.honest) (steps : List Step) (ended : Result (Unit {0}) LiveError) → is_played ended ≡ true → LifeEnds disk steps ended → PlayEnds 1 steps ended
  ends honest steps ended played how =
      let after = ends_after disk honest steps ended played how in
      subst (λ (n : ℕ). PlayEnds n steps ended) (first_number after.0 after.1) after.2

  -- ---- what it releases

  -- the power-up has the cold movement value that was handed in, or nothing was released
  pub cold_or_nothing : (cold recorded_cold : Cold) (released : List Release) (P : Type 0) → IsRecordedCold disk.sectors (contents_of disk) cold recorded_cold ⊎ (P × NothingReleased released)
      → (recorded_cold ≡ cold) ⊎ (released ≡ [])
  cold_or_nothing cold recorded_cold released P is = ⊎_elim (λ (its : IsRecordedCold disk.sectors (contents_of disk) cold recorded_cold). inl (its.blank blank)) (λ (none : P × NothingReleased released). inr none.1) is

-- after steps that were carried out
following : (cold recorded_cold : Cold) (done : List Step) (durable accepted : List Event) (released out : List Release) → out ≡ released
    → (recorded_cold ≡ cold) ⊎ (released ≡ []) → AreAfter (initial recorded_cold) done durable accepted released
    → pairs_of (durable_by (initial cold) done) ≡ pairs_of (initial cold) ++ out
following cold recorded_cold done durable accepted released out same cold_is so =
    let at_cold : pairs_of (durable_by (initial recorded_cold) done) ≡ pairs_of (initial recorded_cold) ++ released = ap pairs_of (sym so.0) ∙ so.2 in
    ⊎_elim
    (λ (ended_life : recorded_cold ≡ cold). subst (λ (w : Cold). pairs_of (durable_by (initial w) done) ≡ pairs_of (initial w) ++ out) ended_life (at_cold ∙ ap (λ (l : List Release). pairs_of (initial recorded_cold) ++ l) (sym same)))
    (λ (nothing : released ≡ []).
    ap pairs_of (nothing_durable recorded_cold cold done (at_cold ∙ ap (λ (l : List Release). pairs_of (initial recorded_cold) ++ l) nothing))
    ∙ sym (append-nil (pairs_of (initial cold)))
    ∙ ap (λ (l : List Release). pairs_of (initial cold) ++ l) (sym (same ∙ nothing)))
    cold_is

pub releases : (cold recorded_cold : Cold) (steps : List Step) (ended : Result (Unit {0}) LiveError) (U : Type 0) (taken : ℕ) (durable accepted : List Event) (released out : List Release)
    → out ≡ released → (recorded_cold ≡ cold) ⊎ (released ≡ []) → IsDone (initial recorded_cold) steps U ended taken durable accepted released
    → pairs_of (durable_by (initial cold) (carried_out steps ended)) ≡ pairs_of (initial cold) ++ out
releases cold recorded_cold steps (Ok x) U taken durable accepted released out same cold_is done =
    following cold recorded_cold steps durable accepted released out same cold_is done.1
releases cold recorded_cold steps (Err (a_live.Open e)) U taken durable accepted released out same cold_is done =
    sym (append-nil (pairs_of (initial cold))) ∙ ap (λ (l : List Release). pairs_of (initial cold) ++ l) (sym (same ∙ done.0))
releases cold recorded_cold steps (Err (a_live.Accept k e)) U taken durable accepted released out same cold_is done =
    following cold recorded_cold (take k steps) durable accepted released out same cold_is done.1
releases cold recorded_cold steps (Err (a_live.Flush k e)) U taken durable accepted released out same cold_is done =
    following cold recorded_cold (take k steps) durable accepted released out same cold_is done.1
releases cold recorded_cold steps (Err (a_live.NoMemory k)) U taken durable accepted released out same cold_is done =
    following cold recorded_cold (take k steps) durable accepted released out same cold_is done.1

-- the outputs after a list of events that a life began with
outputs_after : (begun : List Event) (steps : List Step) (ended : Result (Unit {0}) LiveError) (U : Type 0) (taken : ℕ) (durable accepted : List Event) (released : List Release)
    → IsDone begun steps U ended taken durable accepted released → pairs_of (durable_by begun (carried_out steps ended)) ≡ pairs_of begun ++ released
outputs_after begun steps (Ok x) U taken durable accepted released done = ap pairs_of (sym done.1.0) ∙ done.1.2
outputs_after begun steps (Err (a_live.Open e)) U taken durable accepted released done =
    sym (append-nil (pairs_of begun)) ∙ ap (λ (l : List Release). pairs_of begun ++ l) (sym done.0)
outputs_after begun steps (Err (a_live.Accept k e)) U taken durable accepted released done = ap pairs_of (sym done.1.0) ∙ done.1.2
outputs_after begun steps (Err (a_live.Flush k e)) U taken durable accepted released done = ap pairs_of (sym done.1.0) ∙ done.1.2
outputs_after begun steps (Err (a_live.NoMemory k)) U taken durable accepted released done = ap pairs_of (sym done.1.0) ∙ done.1.2

-- ---- all of a life that was played

-- What `live` says of its disks, for what the caller's list had before, and for the list of events that it found.
abbrev pub IsLived : List Event → List Event → Cold → List Step → State → State → Result (Unit {0}) LiveError → List Release → List Release → List Event → Type 0
IsLived durable accepted cold steps old new ended released before found =
    (recorded_cold : Cold) × (ended_life : Lives 0 durable accepted found cold recorded_cold steps old new before released)
    × IsDone (an_event.PowerUp recorded_cold ∷ found) steps (OnlyOpens 0 durable accepted found recorded_cold old new) ended ended_life.steps_taken ended_life.durable_at_end ended_life.accepted_at_end ended_life.released
    × LeavesLast found recorded_cold steps ended new

pub played : (slots : ℕ) (two : 2 ≤ slots) (cold : Cold) (steps : List Step) (old new : State) (ended : Result (Unit {0}) LiveError) (released : List Release)
    → IsTrue old.honest → IsEmpty slots old → is_played ended ≡ true → LifeEnds old steps ended → new.sectors ≡ old.sectors
    → IsLived [] [] cold steps old new ended released [] [] → IsPlayed slots cold steps ended released new
played slots two cold steps old new ended released honest empty plays how sectors lived =
    let ended_life = lived.1 in
    let out : released ≡ ended_life.released = ended_life.out_is in
    let recorded_cold = cold_or_nothing slots two old empty cold lived.0 ended_life.released _ ended_life.cold_is in
    record {
      old = old;
      empty = empty;
      recorded_cold = lived.0;
      life = ended_life;
      done = lived.2;
      last = lived.3;
      sectors = sectors ∙ size slots two old empty;
      ends = ends slots two old empty honest steps ended plays how;
      outputs = releases cold lived.0 steps ended _ ended_life.steps_taken ended_life.durable_at_end ended_life.accepted_at_end ended_life.released released out recorded_cold lived.2;
    }

pub played_after : (durable accepted found : List Event) (cold : Cold) (steps : List Step) (old new : State) (ended : Result (Unit {0}) LiveError) (released : List Release)
    → IsTrue old.honest → is_played ended ≡ true → LifeEnds old steps ended → new.sectors ≡ old.sectors
    → IsLived durable accepted cold steps old new ended released [] found → IsPlayedAfter durable accepted cold steps ended released old new
played_after durable accepted found cold steps old new ended released honest plays how sectors lived =
    let ended_life = lived.1 in
    let begun : List Event = an_event.PowerUp lived.0 ∷ found in
    let out : released ≡ ended_life.released = ended_life.out_is in
    let after = ends_after old honest steps ended plays how in
    record {
      found = found;
      recorded_cold = lived.0;
      life = ended_life;
      done = lived.2;
      last = lived.3;
      sectors = sectors;
      number = after.0;
      next = after.1;
      ends = after.2;
      outputs = subst (λ (l : List Release). pairs_of (durable_by begun (carried_out steps ended)) ≡ pairs_of begun ++ l) (sym out)
          (outputs_after begun steps ended _ ended_life.steps_taken ended_life.durable_at_end ended_life.accepted_at_end ended_life.released lived.2);
    }

-- ---- a disk that is read

-- a read leaves each image that there was
same_image : (old new : State) → Touches 0 0 old new → SameOpen old new → (c : ℕ → List ℕ) → IsImage (now new) c → IsImage (now old) c
same_image old new touches still c image =
    let contents : (s : ℕ) → contents_of new s ≡ contents_of old s = λ s. (touches.since new.clock touches.later (omega arith)).contents s (inr (omega arith)) in
    record {
      shut = λ s shut. image.shut s (still s ∙ shut) ∙ contents s;
      whole = λ s. image.whole s ∙ ap length (contents s);
    }

pub stays_ready : (old new : State) → Touches 0 0 old new → SameOpen old new → new.sectors ≡ old.sectors → StaysReady old new
stays_ready old new touches still sectors durable accepted ready = record {
  more = ready.more;
  begins = ready.begins;
  each = λ c image. subst (λ (n : ℕ). DescribesEither 0 n durable accepted c) (sym sectors) (ready.each c (same_image old new touches still c image));
}
