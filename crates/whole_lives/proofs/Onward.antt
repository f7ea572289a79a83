-- How a life goes on by one step more.
use Rattle.std.proofs.Common.{◌≡◌, inl, inr, ⊎_elim, ℕ, ◌+◌, ◌≤◌, ◌<◌, List, [], ◌∷◌, ◌++◌, length, take, drop, get_or, append_assoc, refl, sym, ◌∙◌, ap, subst, arith}
use Rattle.std.specs.Prelude.{fold}
use Rattle.std.proofs.lemmas.List.{take_more, take-append-drop, append-nil}
use Rattle.std.proofs.lemmas.List.Sums.{fold_push}
use Rattle.std.proofs.lemmas.Bool.{cases_lt}
use Rattle.disk.specs.State.{State, Platter, IsImage, AtEachMoment}
use Rattle.disk.proofs.Moments.{run_on, weaken}
use Rattle.events.specs.declared.input.Event.{Event}
use Rattle.journal.specs.JournalState.{JournalState as Journal}
use Rattle.journal.specs.Journals.{IsOpen}
use Rattle.unit_start.specs.UnitState.{LifeState}
use Rattle.events.specs.declared.step.Step.{Step}
use Rattle.events.specs.declared.step.Step.TheVariants.{Accept, Flush}
use Rattle.onboard.specs.declared.released.Released.{Released}
use Rattle.unit_start.specs.Events.{pairs_of, account_of, IsAhead}
use Rattle.unit_start.specs.Lives.{Describes}
use Rattle.whole_lives.specs.Stops.{AreAfter}
use Rattle.whole_lives.specs.Runs.{accept_one, accepted_by, flush_one, flushed_by, durable_by, IsOfStep, IsStepped, IsDurable, IsOfRun, IsHeld, Reached, Ran, Took, Going}
use Rattle.onboard.proofs.Resting.{rest_describes}

pub one_taken : (steps : List Step) (i : ℕ) (x d : Step) → i < length steps → x ≡ get_or steps i d → take (i + 1) steps ≡ take i steps ++ x ∷ []
one_taken steps i x d below is = take_more steps i d below ∙ ap (λ (y : Step). take i steps ++ y ∷ []) (sym is)

pub flushed_push : (durable accepted : List Event) (steps : List Step) (x : Step) → flushed_by durable accepted (steps ++ x ∷ []) ≡ flush_one (flushed_by durable accepted steps) (accepted_by accepted steps) x
flushed_push durable accepted [] x = refl
flushed_push durable accepted (step ∷ steps) x = flushed_push (flush_one durable accepted step) (accept_one accepted step) steps x

-- what is durable after more steps
longer_durable : (s : List Event) (steps more : List Step) (events : List Event) → IsDurable s steps events → IsDurable s (steps ++ more) events
longer_durable s steps more events (inl is) = inl is
longer_durable s steps more events (inr (before, after, split, is)) =
    inr (before, after ++ more, ap (λ (l : List Step). l ++ more) split ∙ append_assoc before (Flush ∷ after) more, is)

-- what is durable after some steps is what was there, or what was accepted before one of the flushes
durable_on : (s : List Event) (done steps : List Step) (durable : List Event) → IsDurable s done durable → IsDurable s (done ++ steps) (flushed_by durable (accepted_by s done) steps)
durable_on s done [] durable is = (let D : List Step → Type 0 = λ l. IsDurable s l durable in subst D (sym (append-nil done)) is)
durable_on s done (step ∷ steps) durable is =
    let next = done ++ step ∷ [] in
    let D : List Step → Type 0 = λ l. IsDurable s l (flushed_by (flush_one durable (accepted_by s done) step) (accepted_by s next) steps) in
    let A : List Event → Type 0 = λ l. IsDurable s (done ++ step ∷ steps) (flushed_by (flush_one durable (accepted_by s done) step) l steps) in
    subst A (fold_push accept_one s done step) (subst D (append_assoc done (step ∷ []) steps) (durable_on s next steps (flush_one durable (accepted_by s done) step) (durable_one s done step durable is)))
  where
    durable_one : (s : List Event) (done : List Step) (step : Step) (durable : List Event) → IsDurable s done durable → IsDurable s (done ++ step ∷ []) (flush_one durable (accepted_by s done) step)
    durable_one s done (Accept input) durable is = longer_durable s done (Accept input ∷ []) durable is
    durable_one s done Flush durable is = inr (done, [], refl, refl)

pub durable_there : (s : List Event) (steps : List Step) → IsDurable s steps (durable_by s steps)
durable_there s steps = durable_on s [] steps s (inl refl)

longer_run : (whole_from sectors : ℕ) (s : List Event) (steps more all : List Step) → all ≡ steps ++ more → (c : ℕ → List ℕ) → IsOfRun whole_from sectors s steps c → IsOfRun whole_from sectors s all c
longer_run whole_from sectors s steps more all is c (events, durable, describes) =
    let D : List Step → Type 0 = λ l. IsDurable s l events in (events, subst D (sym is) (longer_durable s steps more events durable), describes)

pub all_durable : (s : List Event) (steps : List Step) (i : ℕ) (events : List Event) → IsDurable s (take i steps) events → IsDurable s steps events
all_durable s steps i events durable = let D : List Step → Type 0 = λ l. IsDurable s l events in subst D (take-append-drop i steps) (longer_durable s (take i steps) (drop i steps) events durable)

pub all_run : (whole_from sectors : ℕ) (s : List Event) (steps : List Step) (i : ℕ) (c : ℕ → List ℕ) → IsOfRun whole_from sectors s (take i steps) c → IsOfRun whole_from sectors s steps c
all_run whole_from sectors s steps i c is = longer_run whole_from sectors s (take i steps) (drop i steps) steps (sym (take-append-drop i steps)) c is

module _ (whole_from : ℕ) (s : List Event) (steps : List Step) (i : ℕ) (below : i < length steps) (x d : Step) (at : x ≡ get_or steps i d) (old mid : State) (sectors : mid.sectors ≡ old.sectors) (journal : Journal) (life : LifeState) (given : List Released)
    (going : Going whole_from s steps i old mid journal life given) where
  abbrev here : List Event
  here = accepted_by s (take i steps)

  abbrev first : List Step
  first = take i steps

  abbrev next : List Step
  next = take (i + 1) steps

  more_first : next ≡ first ++ x ∷ []
  more_first = one_taken steps i x d below at

  -- what was accepted before a step that is a flush
  at_flush : x ≡ Flush → IsDurable s next here
  at_flush flush = inr (first, [], more_first ∙ ap (λ (y : Step). first ++ y ∷ []) flush, refl)

  still_durable : (events : List Event) → IsDurable s first events → IsDurable s next events
  still_durable events is = let D : List Step → Type 0 = λ l. IsDurable s l events in subst D (sym more_first) (longer_durable s first (x ∷ []) events is)

  now_accepted : accept_one here x ≡ accepted_by s next
  now_accepted = sym (fold_push accept_one s first x) ∙ ap (λ (l : List Step). fold accept_one s l) (sym more_first)

  now_durable : flush_one going.durable here x ≡ durable_by s next
  now_durable = ap (λ (l : List Event). flush_one l here x) going.durable_is ∙ sym (flushed_push s s first x) ∙ ap (λ (l : List Step). durable_by s l) (sym more_first)

  of_run : (c : ℕ → List ℕ) → IsOfStep whole_from mid.sectors x going.durable here c → IsOfRun whole_from old.sectors s next c
  of_run c (inl is) = (let T : ℕ → Type 0 = λ n. Describes whole_from n going.durable c in (going.durable, still_durable going.durable going.one_of, subst T sectors is))
  of_run c (inr (flush, is)) = (let T : ℕ → Type 0 = λ n. Describes whole_from n here c in (here, at_flush flush, subst T sectors is))

  further : (new : State) → IsStepped whole_from x going.durable here mid new → AtEachMoment old new (IsOfRun whole_from old.sectors s next)
  further new step = run_on old mid new (IsOfRun whole_from old.sectors s next)
      (weaken old mid (IsOfRun whole_from old.sectors s first) (IsOfRun whole_from old.sectors s next) (longer_run whole_from old.sectors s first (x ∷ []) next more_first) going.at_each_moment)
      (weaken mid new (IsOfStep whole_from mid.sectors x going.durable here) (IsOfRun whole_from old.sectors s next) of_run step.at_each_moment)

  -- what was reached earlier stands in the images of this step too
  held : (j : ℕ) → j ≤ i → (c : ℕ → List ℕ) → IsOfStep whole_from mid.sectors x going.durable here c → IsHeld whole_from old.sectors s steps (durable_by s (take j steps)) c
  held j most c (inl is) =
      let T : ℕ → Type 0 = λ n. Describes whole_from n going.durable c in
      let extends = going.extends j most in
      (going.durable, all_durable s steps i going.durable going.one_of, subst T sectors is, extends.0, extends.1)
  held j most c (inr (flush, is)) =
      let T : ℕ → Type 0 = λ n. Describes whole_from n here c in
      let extends = going.extends j most in (
        here,
        all_durable s steps (i + 1) here (at_flush flush),
        subst T sectors is,
        going.ahead.more ++ extends.0,
        going.ahead.accepted_is ∙ ap (λ (l : List Event). going.ahead.more ++ l) extends.1 ∙ sym (append_assoc going.ahead.more extends.0 (durable_by s (take j steps))),
      )

  still : (new : State) → IsStepped whole_from x going.durable here mid new → (given' its : List Released) → given' ≡ given ++ its → (j : ℕ) → j ≤ i
      → Reached whole_from (IsOfRun whole_from old.sectors s (take j steps)) s steps (take j steps) old new given'
  still new step given' its is j most =
      let so = going.reached j most in
      record {
        moment = so.moment;
        from = so.from;
        to = (let a = so.to in let b = step.at_each_moment.later in omega (arith, a, b));
        released_by_then = so.released_by_then;
        released_later = so.released_later ++ its;
        released_parts = is ∙ ap (λ (l : List Released). l ++ its) so.released_parts ∙ append_assoc so.released_by_then so.released_later its;
        released_is = so.released_is;
        until = λ k low high c image. so.until k low high c (let a = so.to in subst (λ (p : Platter). IsImage p c) (step.at_each_moment.kept k (omega (arith, a, high))) image);
        since = λ k low high c image. ⊎_elim
            (λ (lt : k < mid.clock). so.since k low (omega (arith, lt)) c (subst (λ (p : Platter). IsImage p c) (step.at_each_moment.kept k (omega (arith, lt))) image))
            (λ (ge : mid.clock ≤ k). held j most c (step.at_each_moment.each k ge high c image))
            (cases_lt k mid.clock);
      }

  -- a step failed
  pub stopped : (new : State) (out out' : List Released) → out' ≡ out ++ given → IsStepped whole_from x going.durable here mid new → (ran : Ran whole_from s steps old new out out') × (ran.steps_taken ≡ i) × AreAfter s first ran.durable_at_end ran.accepted_at_end ran.released
  stopped new out out' is step = (
    record {
      at_each_moment = weaken old new (IsOfRun whole_from old.sectors s next) (IsOfRun whole_from old.sectors s steps) (all_run whole_from old.sectors s steps (i + 1)) (further new step);
      steps_taken = i;
      durable_at_end = going.durable;
      accepted_at_end = here;
      durable_at_end_is = going.durable_is;
      accepted_at_end_is = refl;
      ready_at_end = step.ready_at_end;
      released = given;
      out_is = is;
      released_is = going.released_is;
      reached = still new step given [] (sym (append-nil given));
    },
    refl,
    (going.durable_is, refl, going.released_is),
  )

  one_now : (y : Step) → x ≡ y → IsDurable s next (flush_one going.durable here y)
  one_now (Accept input) is = still_durable going.durable going.one_of
  one_now Flush is = at_flush is

  -- what is reached by a step that was taken
  reached_now : (new : State) (journal' : Journal) (life' : LifeState) (its : List Released) → IsStepped whole_from x going.durable here mid new → Took whole_from going.durable here x journal' life' new its
      → pairs_of (durable_by s next) ≡ pairs_of s ++ (given ++ its) → IsOpen journal' (account_of whole_from (durable_by s next)) new → new.sectors ≡ old.sectors
      → Reached whole_from (IsOfRun whole_from old.sectors s next) s steps next old new (given ++ its)
  reached_now new journal' life' its step took released opened same =
      let run = further new step in
      let D : List Event → Type 0 = λ l. IsDurable s next l in
      let one : IsDurable s next (durable_by s next) = subst D now_durable (one_now x refl) in
      record {
        moment = new.clock;
        from = run.later;
        to = omega arith;
        released_by_then = given ++ its;
        released_later = [];
        released_parts = sym (append-nil (given ++ its));
        released_is = released;
        until = λ k low high c image. run.each k low high c image;
        since = λ k low high c image.
            let at_end : k ≡ new.clock = omega (arith, low, high) in
            let end : IsImage (new.at new.clock) c = subst (λ (n : ℕ). IsImage (new.at n) c) at_end image in
            let T : ℕ → Type 0 = λ n. Describes whole_from n (durable_by s next) c in
            (durable_by s next, all_durable s steps (i + 1) (durable_by s next) one, subst T same (rest_describes whole_from journal' (durable_by s next) new opened c end), [], refl);
      }

  extends_now : (y : Step) (j : ℕ) → j ≤ i → (more : List Event) × (flush_one going.durable here y ≡ more ++ durable_by s (take j steps))
  extends_now (Accept input) j most = going.extends j most
  extends_now Flush j most =
      let extends = going.extends j most in
      (going.ahead.more ++ extends.0, going.ahead.accepted_is ∙ ap (λ (l : List Event). going.ahead.more ++ l) extends.1 ∙ sym (append_assoc going.ahead.more extends.0 (durable_by s (take j steps))))

  -- a step was taken
  pub stepped : (new : State) (journal' : Journal) (life' : LifeState) (its : List Released) → new.sectors ≡ mid.sectors
      → IsStepped whole_from x going.durable here mid new → Took whole_from going.durable here x journal' life' new its
      → Going whole_from s steps (i + 1) old new journal' life' (given ++ its)
  stepped new journal' life' its same step took =
      let kept = flush_one going.durable here x in
      let released : pairs_of kept ≡ pairs_of s ++ (given ++ its) = took.released_is ∙ ap (λ (l : List Released). l ++ its) going.released_is ∙ append_assoc (pairs_of s) given its in
      let A : List Event → Type 0 = λ l. IsAhead kept l life' in
      let O : List Event → Type 0 = λ l. IsOpen journal' (account_of whole_from l) new in
      let there = reached_now new journal' life' its step took (ap pairs_of (sym now_durable) ∙ released) (subst O now_durable took.opened) (same ∙ sectors) in
      record {
        at_each_moment = further new step;
        durable = kept;
        durable_is = now_durable;
        one_of = one_now x refl;
        opened = took.opened;
        ahead = subst A now_accepted took.ahead;
        released_is = released;
        extends = λ j most. ⊎_elim
            (λ (lt : j < i + 1). extends_now x j (omega (arith, lt)))
            (λ (ge : i + 1 ≤ j). let last : j ≡ i + 1 = omega (arith, most, ge) in ([], now_durable ∙ ap (λ (n : ℕ). durable_by s (take n steps)) (sym last)))
            (cases_lt j (i + 1));
        reached = λ j most. ⊎_elim
            (λ (lt : j < i + 1). still new step (given ++ its) its refl j (omega (arith, lt)))
            (λ (ge : i + 1 ≤ j).
            let last : j ≡ i + 1 = omega (arith, most, ge) in
            let R : ℕ → Type 0 = λ n. Reached whole_from (IsOfRun whole_from old.sectors s (take n steps)) s steps (take n steps) old new (given ++ its) in
            subst R (sym last) there)
            (cases_lt j (i + 1));
      }
