-- How the steps of a life go on.
use Rattle.std.proofs.Common.{◌≡◌, inl, inr, ℕ, List, [], ◌∷◌, ◌++◌, refl, sym, subst, arith}
use Rattle.std.proofs.lemmas.List.{append-nil}
use Rattle.disk.specs.State.{State, AtEachMoment}
use Rattle.disk.proofs.Moments.{weaken, at_start}
use Rattle.events.specs.declared.input.Event.{Event}
use Rattle.events.specs.declared.input.Event.TheVariants as an_event
use Rattle.events.specs.declared.input.Input.{Input}
use Rattle.journal.specs.JournalState.{JournalState as Journal}
use Rattle.journal.specs.Journals.{IsOpen}
use Rattle.onboard.proofs.Resting.{rest_describes}
use Rattle.unit_start.specs.UnitState.{LifeState}
use Rattle.events.specs.declared.step.Step.{Step}
use Rattle.events.specs.declared.step.Step.TheVariants.{Accept, Flush}
use Rattle.onboard.specs.declared.released.Released.{Released}
use Rattle.unit_start.specs.Events.{pairs_of, account_of, IsAhead}
use Rattle.unit_start.specs.Lives.{DescribesEither}
use Rattle.whole_lives.specs.Runs.{IsOfStep, IsStepped, Took}

pub quiet_step : (whole_from : ℕ) (step : Step) (journal : Journal) (durable accepted more : List Event) (disk : State) → IsOpen journal (account_of whole_from durable) disk → accepted ≡ more ++ durable → IsStepped whole_from step durable accepted disk disk
quiet_step whole_from step journal durable accepted more disk opened begins = record {
  at_each_moment = at_start disk (IsOfStep whole_from disk.sectors step durable accepted) (λ c image. inl (rest_describes whole_from journal durable disk opened c image));
  ready_at_end = record { more = more; begins = begins; each = λ c image. inl (rest_describes whole_from journal durable disk opened c image) };
}

-- a flush
in_flush : (whole_from sectors : ℕ) (durable accepted : List Event) (c : ℕ → List ℕ) → DescribesEither whole_from sectors durable accepted c → IsOfStep whole_from sectors Flush durable accepted c
in_flush whole_from sectors durable accepted c (inl is) = inl is
in_flush whole_from sectors durable accepted c (inr is) = inr (refl, is)

pub flush_step : (whole_from : ℕ) (durable accepted more : List Event) (old new : State) → new.sectors ≡ old.sectors → accepted ≡ more ++ durable → AtEachMoment old new (DescribesEither whole_from old.sectors durable accepted) → IsStepped whole_from Flush durable accepted old new
flush_step whole_from durable accepted more old new sectors begins run = record {
  at_each_moment = weaken old new (DescribesEither whole_from old.sectors durable accepted) (IsOfStep whole_from old.sectors Flush durable accepted) (in_flush whole_from old.sectors durable accepted) run;
  ready_at_end = record { more = more; begins = begins; each = λ c image. (let T : ℕ → Type 0 = λ n. DescribesEither whole_from n durable accepted c in subst T (sym sectors) (run.each new.clock run.later (omega arith) c image)) };
}

-- an input was accepted
pub took_input : (whole_from : ℕ) (durable accepted : List Event) (input : Input) (journal : Journal) (life : LifeState) (disk : State)
    → IsOpen journal (account_of whole_from durable) disk → IsAhead durable (an_event.Input input ∷ accepted) life → Took whole_from durable accepted (Accept input) journal life disk []
took_input whole_from durable accepted input journal life disk opened ahead = record {
  opened = opened;
  ahead = ahead;
  released_is = sym (append-nil (pairs_of durable));
}

-- what was pending is durable
pub took_flush : (whole_from : ℕ) (durable accepted : List Event) (journal : Journal) (life : LifeState) (given : List Released) (disk : State)
    → IsOpen journal (account_of whole_from accepted) disk → IsAhead accepted accepted life → pairs_of accepted ≡ pairs_of durable ++ given → Took whole_from durable accepted Flush journal life disk given
took_flush whole_from durable accepted journal life given disk opened ahead released = record {
  opened = opened;
  ahead = ahead;
  released_is = released;
}
