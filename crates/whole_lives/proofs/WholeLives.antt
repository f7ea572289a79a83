-- Whole lives.
use Rattle.std.proofs.Common.{◌≡◌, ◌⊎◌, inl, inr, ⊎_elim, ℕ, ◌<◌, ◌≤◌, arith, take, List, [], ◌∷◌, refl, sym, ◌∙◌, subst}
use Rattle.std.proofs.lemmas.List.{append-nil}
use Rattle.std.specs.Prelude.{Result, Ok, Err, OnOk}
use Rattle.std.proofs.lemmas.Bool.{cases_lt}
use Rattle.disk.specs.State.{State, Platter, now, IsImage, EachImage, AtEachMoment, contents_of}
use Rattle.disk.proofs.Moments.{run_on, weaken}
use Rattle.events.specs.declared.input.Event.{Event}
use Rattle.events.specs.declared.input.Event.TheVariants.{PowerUp}
use Rattle.mode_table.specs.declared.statuses.Cold.{Cold}
use Rattle.events.specs.declared.step.Step.{Step}
use Rattle.onboard.specs.declared.released.Released.{Released}
use Rattle.unit_start.specs.Lives.{IsRecordedCold, Describes, DescribesEither, IsReady, IsOfOpening, Opens}
use Rattle.whole_lives.specs.Runs.{durable_by, NothingReleased, IsDurable, IsOfRun, IsOfLife, IsHeld, Reached, Ran, LeftUnopened, WasOpened, Lives, IsCut, IsHeir, LivesCompose}
use Rattle.whole_lives.specs.Stops.{IsUnflushed}
use Rattle.whole_lives.specs.declared.errors.LiveError.{LiveError}
use Rattle.unit_start.proofs.Opening.{ready_after}
use Rattle.whole_lives.proofs.Onward.{all_durable, durable_there}

module _ (whole_from : ℕ) (d a p : List Event) (cold recorded_cold : Cold) (steps : List Step) (old mid : State) (opens : Opens whole_from d a p cold recorded_cold old mid) where
  abbrev ColdIs : State → List Released → Type 0
  ColdIs new given = IsRecordedCold old.sectors (contents_of old) cold recorded_cold ⊎ (AtEachMoment old new (IsImage (now old)) × NothingReleased given)

  of_opening_first : (first : List Step) (c : ℕ → List ℕ) → IsOfOpening whole_from old.sectors d a p recorded_cold c → IsOfLife whole_from old.sectors d a p recorded_cold first c
  of_opening_first first c (inl is) = inl is
  of_opening_first first c (inr is) = inr (PowerUp recorded_cold ∷ p, inl refl, is)

  of_opening : (c : ℕ → List ℕ) → IsOfOpening whole_from old.sectors d a p recorded_cold c → IsOfLife whole_from old.sectors d a p recorded_cold steps c
  of_opening c is = of_opening_first steps c is

  opening : AtEachMoment old mid (IsOfLife whole_from old.sectors d a p recorded_cold steps)
  opening = weaken old mid (IsOfOpening whole_from old.sectors d a p recorded_cold) (IsOfLife whole_from old.sectors d a p recorded_cold steps) of_opening opens.at_each_moment

  -- the opening was refused
  pub lives_refused : (out : List Released) → (lived : Lives whole_from d a p cold recorded_cold steps old mid out out) × NothingReleased lived.released
  lives_refused out = (
    record {
      found_is = opens.found_is;
      found_on_disk = opens.found_on_disk;
      at_each_moment = opening;
      steps_taken = 0;
      durable_at_end = opens.durable_at_end;
      accepted_at_end = opens.accepted_at_end;
      ready_at_end = opens.ready_at_end;
      released = [];
      out_is = sym (append-nil out);
      cold_is = ⊎_elim (λ (is : IsRecordedCold old.sectors (contents_of old) cold recorded_cold). let lived : ColdIs mid [] = inl is in lived) (λ (none : AtEachMoment old mid (IsImage (now old))). let lived : ColdIs mid [] = inr (none, refl) in lived) opens.cold_is;
      unopened_or_opened = inl (refl, opens.which);
    },
    refl,
  )

  -- the opening stands before the steps
  reached_on : (new : State) → mid.sectors ≡ old.sectors → ((k : ℕ) → k ≤ mid.clock → new.at k ≡ mid.at k) → (given : List Released) (first : List Step)
      → Reached whole_from (IsOfRun whole_from mid.sectors (PowerUp recorded_cold ∷ p) first) (PowerUp recorded_cold ∷ p) steps first mid new given
      → Reached whole_from (IsOfLife whole_from old.sectors d a p recorded_cold first) (PowerUp recorded_cold ∷ p) steps first old new given
  reached_on new sectors kept given first so =
      let R : ℕ → (ℕ → List ℕ) → Type 0 = λ n c. IsOfRun whole_from n (PowerUp recorded_cold ∷ p) first c in
      let H : ℕ → (ℕ → List ℕ) → Type 0 = λ n c. IsHeld whole_from n (PowerUp recorded_cold ∷ p) steps (durable_by (PowerUp recorded_cold ∷ p) first) c in
      record {
        moment = so.moment;
        from = (let a = opens.at_each_moment.later in let b = so.from in omega (arith, a, b));
        to = so.to;
        released_by_then = so.released_by_then;
        released_later = so.released_later;
        released_parts = so.released_parts;
        released_is = so.released_is;
        until = λ k low high c image. ⊎_elim
            (λ (lt : k < mid.clock). of_opening_first first c (opens.at_each_moment.each k low (omega (arith, lt)) c (subst (λ (x : Platter). IsImage x c) (kept k (omega (arith, lt))) image)))
            (λ (ge : mid.clock ≤ k). let lived : IsOfLife whole_from old.sectors d a p recorded_cold first c = inr (subst (λ (n : ℕ). R n c) sectors (so.until k ge high c image)) in lived)
            (cases_lt k mid.clock);
        since = λ k low high c image. subst (λ (n : ℕ). H n c) sectors (so.since k low high c image);
      }

  -- steps were run
  pub lives_ran : (new : State) (out out' : List Released) → IsRecordedCold old.sectors (contents_of old) cold recorded_cold → mid.sectors ≡ old.sectors → (ran : Ran whole_from (PowerUp recorded_cold ∷ p) steps mid new out out') → (lived : Lives whole_from d a p cold recorded_cold steps old new out out') × (lived.steps_taken ≡ ran.steps_taken) × (lived.durable_at_end ≡ ran.durable_at_end) × (lived.accepted_at_end ≡ ran.accepted_at_end) × (lived.released ≡ ran.released)
  lives_ran new out out' cold_so sectors ran =
      let R : ℕ → Type 0 = λ n. AtEachMoment mid new (IsOfRun whole_from n (PowerUp recorded_cold ∷ p) steps) in
      let more : AtEachMoment mid new (IsOfLife whole_from old.sectors d a p recorded_cold steps) = weaken mid new (IsOfRun whole_from old.sectors (PowerUp recorded_cold ∷ p) steps) (IsOfLife whole_from old.sectors d a p recorded_cold steps) (λ c is. inr is) (subst R sectors ran.at_each_moment) in (
        record {
          found_is = opens.found_is;
          found_on_disk = opens.found_on_disk;
          at_each_moment = run_on old mid new (IsOfLife whole_from old.sectors d a p recorded_cold steps) opening more;
          steps_taken = ran.steps_taken;
          durable_at_end = ran.durable_at_end;
          accepted_at_end = ran.accepted_at_end;
          ready_at_end = ran.ready_at_end;
          released = ran.released;
          out_is = ran.out_is;
          cold_is = inl cold_so;
          unopened_or_opened = inr (record {
            durable_at_end_is = ran.durable_at_end_is;
            accepted_at_end_is = ran.accepted_at_end_is;
            released_is = ran.released_is;
            reached = λ j most. reached_on new sectors ran.at_each_moment.kept ran.released (take j steps) (ran.reached j most);
          });
        },
        refl,
        refl,
        refl,
        refl,
      )

  -- a flush had no space
  pub unflushed_on : {T : Type 0} (new : State) (ended : Result T LiveError) (durable : List Event) → mid.sectors ≡ old.sectors → IsUnflushed whole_from (IsOfRun whole_from mid.sectors (PowerUp recorded_cold ∷ p)) steps ended durable mid new
      → IsUnflushed whole_from (IsOfLife whole_from old.sectors d a p recorded_cold) steps ended durable old new
  unflushed_on {T} new (Ok x) durable sectors so = so
  unflushed_on {T} new (Err e) durable sectors so = λ full k named.
      let first = take k steps in
      let R : ℕ → Type 0 = λ n. AtEachMoment mid new (IsOfRun whole_from n (PowerUp recorded_cold ∷ p) first) × EachImage new (Describes whole_from n durable) in
      let halves = subst R sectors (so full k named) in
      let extends = weaken old mid (IsOfOpening whole_from old.sectors d a p recorded_cold) (IsOfLife whole_from old.sectors d a p recorded_cold first) (of_opening_first first) opens.at_each_moment in
      let more = weaken mid new (IsOfRun whole_from old.sectors (PowerUp recorded_cold ∷ p) first) (IsOfLife whole_from old.sectors d a p recorded_cold first) (λ c is. inr is) halves.0 in
      (run_on old mid new (IsOfLife whole_from old.sectors d a p recorded_cold first) extends more, halves.1)

pub on_ok : {X E : Type 0} (r : Result X E) (P Q : Type 0) → (P → Q) → OnOk r P → OnOk r Q
on_ok (Ok x) P Q so is = so is
on_ok (Err e) P Q so is = is

-- what was durable is one list
pub same_unflushed : {T : Type 0} (whole_from : ℕ) (Leave : List Step → (ℕ → List ℕ) → Type 0) (steps : List Step) (ended : Result T LiveError) (b b' : List Event) (old new : State) → b' ≡ b
    → IsUnflushed whole_from Leave steps ended b old new → IsUnflushed whole_from Leave steps ended b' old new
same_unflushed {T} whole_from Leave steps ended b b' old new same is = let U : List Event → Type 0 = λ l. IsUnflushed whole_from Leave steps ended l old new in subst U (sym same) is

module _ (whole_from : ℕ) (old new found : State) (d a p : List Event) (cold recorded_cold : Cold) (steps : List Step) (out out' : List Released) (life : Lives whole_from d a p cold recorded_cold steps old new out out') where
  pub after_cut : IsCut old new found → (q : List Event) × IsReady whole_from q q found × IsHeir d a p recorded_cold steps q
  after_cut cut = ⊎_elim
      (λ (is : DescribesEither whole_from old.sectors d a (contents_of found)). ⊎_elim
      (λ (describes : Describes whole_from old.sectors d (contents_of found)). (d, ready_after whole_from old.sectors d found cut.sectors cut.synced describes, inl refl))
      (λ (describes : Describes whole_from old.sectors a (contents_of found)). (a, ready_after whole_from old.sectors a found cut.sectors cut.synced describes, inr (inl refl)))
      is)
      (λ (is : IsOfRun whole_from old.sectors (PowerUp recorded_cold ∷ p) steps (contents_of found)).
      (is.0, ready_after whole_from old.sectors is.0 found cut.sectors cut.synced is.2, inr (inr is.1)))
      (life.at_each_moment.each cut.moment cut.from cut.to (contents_of found) cut.image)

  settled_heir : life.durable_at_end ≡ p → IsHeir d a p recorded_cold steps life.durable_at_end
  settled_heir is = ⊎_elim
      (λ (same : p ≡ d). let lived : IsHeir d a p recorded_cold steps life.durable_at_end = inl (is ∙ same) in lived)
      (λ (same : p ≡ a). let lived : IsHeir d a p recorded_cold steps life.durable_at_end = inr (inl (is ∙ same)) in lived)
      life.found_is

  -- what was durable at the end
  pub heir_back : IsHeir d a p recorded_cold steps life.durable_at_end
  heir_back = ⊎_elim
      (λ (left : LeftUnopened d a p recorded_cold life.durable_at_end life.accepted_at_end life.released). ⊎_elim
      (λ (is : (life.durable_at_end ≡ d) × (life.accepted_at_end ≡ a)). let lived : IsHeir d a p recorded_cold steps life.durable_at_end = inl is.0 in lived)
      (λ (is : (life.durable_at_end ≡ p) × (life.accepted_at_end ≡ PowerUp recorded_cold ∷ p)). settled_heir is.0)
      left.1)
      (λ (ran : WasOpened whole_from d a p recorded_cold steps life.steps_taken old new life.durable_at_end life.accepted_at_end life.released).
      let D : List Event → Type 0 = λ l. IsDurable (PowerUp recorded_cold ∷ p) (take life.steps_taken steps) l in
      let lived : IsHeir d a p recorded_cold steps life.durable_at_end = inr (inr (all_durable (PowerUp recorded_cold ∷ p) steps life.steps_taken life.durable_at_end (subst D (sym ran.durable_at_end_is) (durable_there (PowerUp recorded_cold ∷ p) (take life.steps_taken steps))))) in lived)
      life.unopened_or_opened

  pub handed_back : found ≡ new → IsReady whole_from life.durable_at_end life.accepted_at_end found
  handed_back back = let R : State → Type 0 = λ s. IsReady whole_from life.durable_at_end life.accepted_at_end s in subst R (sym back) life.ready_at_end

pub lives_on : LivesCompose
lives_on whole_from old new found d a p cold recorded_cold steps out out' life (inl cut) = let next = after_cut whole_from old new found d a p cold recorded_cold steps out out' life cut in (next.0, next.0, next.1, next.2)
lives_on whole_from old new found d a p cold recorded_cold steps out out' life (inr back) =
    (life.durable_at_end, life.accepted_at_end, handed_back whole_from old new found d a p cold recorded_cold steps out out' life back, heir_back whole_from old new found d a p cold recorded_cold steps out out' life)
