-- How a run of steps begins and ends.
use Rattle.std.proofs.Common.{◌≡◌, inl, ℕ, List, [], ◌++◌, take, Some, Err, IsTrue, refl, sym, ◌∙◌, ap, subst, arith}
use Rattle.std.proofs.lemmas.List.{append-nil}
use Rattle.disk.specs.State.{State, IsImage, EachImage, AtEachMoment}
use Rattle.disk.proofs.Moments.{weaken, at_start}
use Rattle.events.specs.declared.input.Event.{Event}
use Rattle.journal.specs.JournalState.{JournalState as Journal}
use Rattle.journal.specs.Journals.{IsOpen}
use Rattle.events.specs.declared.step.Step.{Step}
use Rattle.events.specs.declared.step.Step.TheVariants.{Flush}
use Rattle.onboard.specs.declared.released.Released.{Released}
use Rattle.unit_start.specs.Events.{pairs_of, account_of, IsAhead}
use Rattle.whole_lives.specs.Runs.{accepted_by, durable_by, IsOfRun, Reached, Ran, Going}
use Rattle.whole_lives.specs.Answers.{is_full}
use Rattle.unit_start.specs.Lives.{Describes}
use Rattle.whole_lives.specs.Stops.{AreAfter, step_of, IsUnflushed}
use Rattle.whole_lives.specs.declared.errors.LiveError.{LiveError}
use Rattle.unit_start.specs.UnitState.{LifeState}
use Rattle.whole_lives.proofs.Onward.{all_run}
use Rattle.onboard.proofs.Resting.{rest_describes}
use Rattle.whole_lives.proofs.Stepping.{quiet_step}

-- all steps were taken
pub finished : (whole_from : ℕ) (s : List Event) (steps : List Step) (i : ℕ) (old mid : State) (journal : Journal) (life : LifeState) (given out out' : List Released)
    → out' ≡ out ++ given → (going : Going whole_from s steps i old mid journal life given) → (ran : Ran whole_from s steps old mid out out') × (ran.steps_taken ≡ i) × AreAfter s (take i steps) ran.durable_at_end ran.accepted_at_end ran.released
finished whole_from s steps i old mid journal life given out out' is going = (
  record {
    at_each_moment = weaken old mid (IsOfRun whole_from old.sectors s (take i steps)) (IsOfRun whole_from old.sectors s steps) (all_run whole_from old.sectors s steps i) going.at_each_moment;
    steps_taken = i;
    durable_at_end = going.durable;
    accepted_at_end = accepted_by s (take i steps);
    durable_at_end_is = going.durable_is;
    accepted_at_end_is = refl;
    ready_at_end = (quiet_step whole_from Flush journal going.durable (accepted_by s (take i steps)) going.ahead.more mid going.opened going.ahead.accepted_is).ready_at_end;
    released = given;
    out_is = is;
    released_is = going.released_is;
    reached = going.reached;
  },
  refl,
  (going.durable_is, refl, going.released_is),
)

-- before the first step
pub going_first : (whole_from : ℕ) (s : List Event) (steps : List Step) (disk : State) (journal : Journal) (life : LifeState)
    → IsOpen journal (account_of whole_from s) disk → IsAhead s s life → Going whole_from s steps 0 disk disk journal life []
going_first whole_from s steps disk journal life opened ahead =
    let still = at_start disk (IsOfRun whole_from disk.sectors s (take 0 steps)) (λ c image. (s, inl refl, rest_describes whole_from journal s disk opened c image)) in
    let none = sym (append-nil (pairs_of s)) in
    let R : ℕ → Type 0 = λ n. Reached whole_from (IsOfRun whole_from disk.sectors s (take n steps)) s steps (take n steps) disk disk [] in
    let first : R 0 = record {
      moment = disk.clock;
      from = omega arith;
      to = omega arith;
      released_by_then = [];
      released_later = [];
      released_parts = refl;
      released_is = none;
      until = λ k low high c image. still.each k low high c image;
      since = λ k low high c image. (
          let at_end : k ≡ disk.clock = omega (arith, low, high) in
          (s, inl refl, rest_describes whole_from journal s disk opened c (subst (λ (n : ℕ). IsImage (disk.at n) c) at_end image), [], refl));
    } in
    record {
      at_each_moment = still;
      durable = s;
      durable_is = refl;
      one_of = inl refl;
      opened = opened;
      ahead = ahead;
      released_is = none;
      extends = λ j most. (let zero_is : j ≡ 0 = omega (arith, most) in ([], ap (λ (n : ℕ). durable_by s (take n steps)) (sym zero_is)));
      reached = λ j most. (let zero_is : j ≡ 0 = omega (arith, most) in subst R (sym zero_is) first);
    }

-- a flush had no space: no device was called
pub unflushed : (whole_from : ℕ) (s : List Event) (steps : List Step) (i : ℕ) (old mid new : State) (journal : Journal) (life : LifeState) (given : List Released) (error : LiveError) (durable_at_end : List Event)
    → mid.sectors ≡ old.sectors → (going : Going whole_from s steps i old mid journal life given) → step_of error ≡ Some i → (IsTrue (is_full error) → new ≡ mid) → durable_at_end ≡ going.durable
    → IsUnflushed {T = Unit {0}} whole_from (IsOfRun whole_from old.sectors s) steps (Err error) durable_at_end old new
unflushed whole_from s steps i old mid new journal life given error durable_at_end sectors going named same before_is = λ full k also.
    let number : i ≡ k = (let e : Some i ≡ Some k = sym named ∙ also in cc) in
    let there = rest_describes whole_from journal going.durable mid going.opened in
    let R : State → Type 0 = λ d. AtEachMoment old d (IsOfRun whole_from old.sectors s (take k steps)) × EachImage d (Describes whole_from old.sectors durable_at_end) in
    let M : ℕ → Type 0 = λ n. AtEachMoment old mid (IsOfRun whole_from old.sectors s (take n steps)) in
    let D : ℕ → List Event → Type 0 = λ n l. EachImage mid (Describes whole_from n l) in
    subst R (sym (same full)) (subst M number going.at_each_moment, subst (λ (l : List Event). D old.sectors l) (sym before_is) (subst (λ (n : ℕ). D n going.durable) sectors there))
