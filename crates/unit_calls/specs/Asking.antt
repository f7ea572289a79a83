-- What is reported of the newest event, where that is released (this project's profile). Lists of events have the newest
-- first.
use Rattle.std.specs.Prelude.{◌≡◌, List}
use Rattle.events.specs.declared.input.Event.{Event}
use Rattle.relayed_unit.specs.Relayed.{is_unreleased}
use Rattle.unit_start.specs.Events.{IsAhead}
use Rattle.unit_calls.specs.Requests.{IfElse}
use Rattle.unit_calls.specs.declared.handle.Opened.{Opened}
use Rattle.unit_calls.specs.declared.status.Status.{Status}
use Rattle.unit_calls.specs.declared.status.Status.TheVariants as a_status

-- what is reported describes all accepted events, and all of them are durable; NotReleased exactly where the newest one isn't
-- released yet, and then nothing is written
abbrev pub Asks : {E : Type 0} → (List Event → E → Type 0) → Opened → E → E → Status → Type 0
Asks Describes opened old new status = IfElse (is_unreleased opened.unit.moored) ((status ≡ a_status.NotReleased) × (new ≡ old))
    ((status ≡ a_status.Done) × ((durable accepted : List Event) → IsAhead durable accepted opened.unit.moored.unit.life
    → (durable ≡ accepted) × Describes accepted new))
