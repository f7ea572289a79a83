-- Lives that follow one another.
use Rattle.std.proofs.Common.{◌≡◌, ◌⊎◌, inl, inr, ⊎_elim, ℕ, List, [], ◌∷◌, ◌++◌, append_assoc, refl, sym, ◌∙◌, ap, subst}
use Rattle.std.proofs.lemmas.List.{append-nil}
use Rattle.disk.specs.State.{State, contents_of}
use Rattle.events.specs.declared.input.Event.{Event}
use Rattle.events.specs.declared.input.Event.TheVariants as an_event
use Rattle.events.specs.declared.step.Step.{Step}
use Rattle.events.specs.declared.step.Step.TheVariants.{Accept, Flush}
use Rattle.mode_table.specs.declared.statuses.Cold.{Cold}
use Rattle.onboard.specs.declared.released.Released.{Released}
use Rattle.unit_start.specs.Events.{pair_of, pairs_of}
use Rattle.unit_start.specs.Lives.{IsReady}
use Rattle.whole_lives.specs.Runs.{accepted_by, durable_by, IsDurable, LeftUnopened, WasOpened, Lives, IsCut, IsHeir}
use Rattle.whole_lives.specs.Chains.{IsReleasedBy, IsLeftWith, OneLife, StandsIn, AnyNumberOfLives}
use Rattle.whole_lives.proofs.WholeLives.{after_cut, heir_back, handed_back}
use Rattle.unit_start.proofs.Opening.{ready_after}

-- ---- pairs in lists

in_front : (pair : Released) (xs ys : List Released) → StandsIn pair xs → StandsIn pair (xs ++ ys)
in_front pair xs ys (before, after, is) = (before, after ++ ys, ap (λ (l : List Released). l ++ ys) is ∙ append_assoc before (pair ∷ after) ys)

following : (pair : Released) (xs ys : List Released) → StandsIn pair ys → StandsIn pair (xs ++ ys)
following pair xs ys (before, after, is) = (xs ++ before, after, ap (λ (l : List Released). xs ++ l) is ∙ sym (append_assoc xs before (pair ∷ after)))

in_none : (pair : Released) (before after : List Released) → [] ≡ before ++ pair ∷ after → ⊥
in_none pair [] after is = absurd cc
in_none pair (x ∷ before) after is = absurd cc

-- a longer list has more pairs after those that it had
more_pairs : (more events : List Event) → (rest : List Released) × (pairs_of (more ++ events) ≡ pairs_of events ++ rest)
more_pairs [] events = ([], sym (append-nil (pairs_of events)))
more_pairs (event ∷ more) events =
    let so = more_pairs more events in
    let pair = pair_of (more ++ events) event in
    (so.0 ++ pair ∷ [], ap (λ (l : List Released). l ++ pair ∷ []) so.1 ∙ append_assoc (pairs_of events) so.0 (pair ∷ []))

still_in : (pair : Released) (events all more : List Event) → all ≡ more ++ events → StandsIn pair (pairs_of events) → StandsIn pair (pairs_of all)
still_in pair events all more is stands =
    let so = more_pairs more events in
    let S : List Released → Type 0 = λ l. StandsIn pair l in
    subst S (sym (ap pairs_of is ∙ so.1)) (in_front pair (pairs_of events) so.0 stands)

-- ---- lists that go on from others

-- what is accepted goes on from what was there
pub accepted_on : (s : List Event) (steps : List Step) → accepted_by s steps ≡ accepted_by [] steps ++ s
accepted_on s [] = refl
accepted_on s (Accept input ∷ steps) =
    let event = an_event.Input input in
    accepted_on (event ∷ s) steps ∙ sym (ap (λ (l : List Event). l ++ s) (accepted_on (event ∷ []) steps) ∙ append_assoc (accepted_by [] steps) (event ∷ []) s)
accepted_on s (Flush ∷ steps) = accepted_on s steps

durable_on : (s : List Event) (steps : List Step) (events : List Event) → IsDurable s steps events → (more : List Event) × (events ≡ more ++ s)
durable_on s steps events (inl is) = ([], is)
durable_on s steps events (inr (before, after, split, is)) = (accepted_by [] before, is ∙ accepted_on s before)

on_from : (d p events m n : List Event) (recorded_cold : Cold) → p ≡ m ++ d → events ≡ n ++ an_event.PowerUp recorded_cold ∷ p → (more : List Event) × (events ≡ more ++ d)
on_from d p events m n recorded_cold first second = (
  n ++ an_event.PowerUp recorded_cold ∷ m,
  second ∙ ap (λ (l : List Event). n ++ an_event.PowerUp recorded_cold ∷ l) first ∙ sym (append_assoc n (an_event.PowerUp recorded_cold ∷ m) d),
)

settled_on : (whole_from : ℕ) (d a p : List Event) (old : State) → IsReady whole_from d a old → (p ≡ d) ⊎ (p ≡ a) → (more : List Event) × (p ≡ more ++ d)
settled_on whole_from d a p old ready (inl is) = ([], is)
settled_on whole_from d a p old ready (inr is) = (ready.more, is ∙ ready.begins)

heir_on : (whole_from : ℕ) (d a p q : List Event) (recorded_cold : Cold) (steps : List Step) (old : State) → IsReady whole_from d a old → (p ≡ d) ⊎ (p ≡ a) → IsHeir d a p recorded_cold steps q → (more : List Event) × (q ≡ more ++ d)
heir_on whole_from d a p q recorded_cold steps old ready settled (inl is) = ([], is)
heir_on whole_from d a p q recorded_cold steps old ready settled (inr (inl is)) = (ready.more, is ∙ ready.begins)
heir_on whole_from d a p q recorded_cold steps old ready settled (inr (inr is)) =
    let base = settled_on whole_from d a p old ready settled in
    let more = durable_on (an_event.PowerUp recorded_cold ∷ p) steps q is in
    on_from d p q base.0 more.0 recorded_cold base.1 more.1

-- ---- one life more

-- What is found after a life: a list that goes on from the first one and has all that was released, or that with what
-- was accepted after it.
pub record Goes (whole_from : ℕ) (d : List Event) (its : List Released) (found : State) : Type 0 where
  pub list : List Event
  pub longer : List Event
  pub ready : IsReady whole_from list longer found
  pub more : List Event
  pub goes_on : list ≡ more ++ d
  pub held : (pair : Released) → StandsIn pair its → StandsIn pair (pairs_of list)

module _ (whole_from : ℕ) (d a p : List Event) (cold recorded_cold : Cold) (steps : List Step) (old new found : State) (out out' : List Released) (ready : IsReady whole_from d a old) (whole_life : Lives whole_from d a p cold recorded_cold steps old new out out') where
  abbrev power_up : List Event
  power_up = an_event.PowerUp recorded_cold ∷ p

  -- power was lost
  goes_cut : (cut : IsCut old new found) (its : List Released) → IsReleasedBy whole_from d a p recorded_cold steps old new whole_life.released cut.moment its → Goes whole_from d its found
  goes_cut cut its (inl none) =
      let next = after_cut whole_from old new found d a p cold recorded_cold steps out out' whole_life cut in
      let on = heir_on whole_from d a p next.0 recorded_cold steps old ready whole_life.found_is next.2 in
      record {
        list = next.0;
        longer = next.0;
        ready = next.1;
        more = on.0;
        goes_on = on.1;
        held = λ pair stands. absurd (in_none pair stands.0 stands.1 (sym none ∙ stands.2));
      }
  goes_cut cut its (inr (first, reached, before, its_are)) =
      let held = reached.since cut.moment before cut.to (contents_of found) cut.image in
      let base = settled_on whole_from d a p old ready whole_life.found_is in
      let more = durable_on power_up steps held.0 held.1 in
      let on = on_from d p held.0 base.0 more.0 recorded_cold base.1 more.1 in
      record {
        list = held.0;
        longer = held.0;
        ready = ready_after whole_from old.sectors held.0 found cut.sectors cut.synced held.2;
        more = on.0;
        goes_on = on.1;
        held = λ pair stands.
            let S : List Released → Type 0 = λ l. StandsIn pair l in
            let there : StandsIn pair (pairs_of (durable_by power_up first)) = subst S (sym reached.released_is) (following pair (pairs_of power_up) reached.released_by_then (subst S its_are stands)) in
            still_in pair (durable_by power_up first) held.0 held.3 held.4 there;
      }

  -- all that was released is in what is durable at the end
  all_held : (pair : Released) → StandsIn pair whole_life.released → StandsIn pair (pairs_of whole_life.durable_at_end)
  all_held pair stands = ⊎_elim
      (λ (left : LeftUnopened d a p recorded_cold whole_life.durable_at_end whole_life.accepted_at_end whole_life.released). absurd (in_none pair stands.0 stands.1 (sym left.0 ∙ stands.2)))
      (λ (ran : WasOpened whole_from d a p recorded_cold steps whole_life.steps_taken old new whole_life.durable_at_end whole_life.accepted_at_end whole_life.released).
      let S : List Released → Type 0 = λ l. StandsIn pair l in subst S (sym ran.released_is) (following pair (pairs_of power_up) whole_life.released stands))
      whole_life.unopened_or_opened

  -- the disk was handed back
  goes_back : found ≡ new → (its : List Released) → its ≡ whole_life.released → Goes whole_from d its found
  goes_back back its its_are =
      let on = heir_on whole_from d a p whole_life.durable_at_end recorded_cold steps old ready whole_life.found_is (heir_back whole_from old new found d a p cold recorded_cold steps out out' whole_life) in
      record {
        list = whole_life.durable_at_end;
        longer = whole_life.accepted_at_end;
        ready = handed_back whole_from old new found d a p cold recorded_cold steps out out' whole_life back;
        more = on.0;
        goes_on = on.1;
        held = λ pair stands. (let S : List Released → Type 0 = λ l. StandsIn pair l in all_held pair (subst S its_are stands));
      }

  goes_left : (its : List Released) → IsLeftWith whole_from d a p recorded_cold steps old new found whole_life.released its → Goes whole_from d its found
  goes_left its (inl (cut, released)) = goes_cut cut its released
  goes_left its (inr (back, all)) = goes_back back its all

goes : (whole_from : ℕ) (d a : List Event) (life : OneLife) → IsReady whole_from d a life.old → Goes whole_from d life.released_by_then life.next
goes whole_from d a life ready = (let so = life.lived whole_from d a ready in goes_left whole_from d a so.0 life.cold so.1 life.steps life.old life.new life.next life.out_before life.out_after ready so.2 life.released_by_then so.3)

pub any_number : AnyNumberOfLives
any_number whole_from d a first last [] ready follow = let R : State → Type 0 = λ s. IsReady whole_from d a s in (d, a, subst R follow ready, tt, [], refl)
any_number whole_from d a first last (life ∷ lives) ready follow =
    let R : State → Type 0 = λ s. IsReady whole_from d a s in
    let next = goes whole_from d a life (subst R follow.0 ready) in
    let rest = any_number whole_from next.list next.longer life.next last lives next.ready follow.1 in (
      rest.0,
      rest.1,
      rest.2,
      ((λ pair stands. still_in pair next.list rest.0 rest.4 rest.5 (next.held pair stands)), rest.3),
      rest.4 ++ next.more,
      rest.5 ∙ ap (λ (l : List Event). rest.4 ++ l) next.goes_on ∙ sym (append_assoc rest.4 next.more d),
    )
