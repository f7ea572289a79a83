-- What is released of a life whose power-up has one cold movement value or another.
use Rattle.std.proofs.Common.{◌≡◌, ◌+◌, List, [], ◌∷◌, ◌++◌, length, refl, sym, ◌∙◌, ap, arith, length-append}
use Rattle.events.specs.declared.input.Event.{Event}
use Rattle.events.specs.declared.input.Event.TheVariants as an_event
use Rattle.events.specs.declared.step.Step.{Step}
use Rattle.events.specs.declared.step.Step.TheVariants.{Accept, Flush}
use Rattle.mode_table.specs.declared.statuses.Cold.{Cold}
use Rattle.unit_start.specs.Events.{pair_of, pairs_of}
use Rattle.unit_start.proofs.Lists.{empty_of}
use Rattle.whole_lives.specs.Runs.{flushed_by, durable_by}

pub length_pairs : (events : List Event) → length (pairs_of events) ≡ length events
length_pairs [] = refl
length_pairs (event ∷ events) =
    let more : length (pairs_of events) ≡ length events = length_pairs events in
    omega (arith, more, length-append (pairs_of events) (pair_of events event ∷ []))

abbrev pub initial : Cold → List Event
initial recorded_cold = an_event.PowerUp recorded_cold ∷ []

-- what is durable goes on from what there was
flushed_on : (d a events : List Event) (steps : List Step) → flushed_by (d ++ events) (a ++ events) steps ≡ flushed_by d a steps ++ events
flushed_on d a events [] = refl
flushed_on d a events (Accept input ∷ steps) = flushed_on d (an_event.Input input ∷ a) events steps
flushed_on d a events (Flush ∷ steps) = flushed_on a a events steps

-- where nothing was released after one power-up, nothing is durable after another one
pub nothing_durable : (recorded_cold other : Cold) (steps : List Step) → pairs_of (durable_by (initial recorded_cold) steps) ≡ pairs_of (initial recorded_cold) ++ [] → durable_by (initial other) steps ≡ initial other
nothing_durable recorded_cold other steps none =
    let count : length (durable_by (initial recorded_cold) steps) ≡ 1 = sym (length_pairs (durable_by (initial recorded_cold) steps)) ∙ ap length none in
    let more : length (durable_by (initial recorded_cold) steps) ≡ length (durable_by [] steps) + 1 =
    ap length (flushed_on [] [] (initial recorded_cold) steps) ∙ length-append (durable_by [] steps) (initial recorded_cold) in
    let empty : durable_by [] steps ≡ [] = empty_of (durable_by [] steps) (omega (arith, count, more)) in
    flushed_on [] [] (initial other) steps ∙ ap (λ (l : List Event). l ++ initial other) empty
