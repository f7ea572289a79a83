-- How a mode is left in which the train has to stand (SUBSET-026, 4.4, 4.6 and 5.11; the rows of the mode table and
-- which actions are accepted: this project's profile). Speeds are metres per hour. A life is as any event left it, and
-- an input is the next event; a power-up begins another life, in Stand By.
--
-- They don't say that Trip is left by each acknowledgement: one that isn't accepted changes nothing. Standstill is a
-- speed of 0 in the last reading, or no reading yet.
use Rattle.std.specs.Prelude.{◌≡◌, ◌⊎◌, false, List, [], ◌∷◌, IsTrue}
use Rattle.driver.specs.declared.action.Action.{Action}
use Rattle.driver.specs.declared.action.Action.TheVariants.{Start, ChooseShunting, Acknowledge}
use Rattle.driver.specs.declared.action.Acknowledged.TheVariants as kind
use Rattle.driver.specs.Accepting.{accepts}
use Rattle.events.specs.declared.input.Event.{Event}
use Rattle.events.specs.declared.input.Event.TheVariants as an_event
use Rattle.events.specs.declared.input.Input.{Input}
use Rattle.events.specs.declared.input.Input.TheVariants.{Odometer, Driver}
use Rattle.events.specs.declared.input.Reading.{Reading}
use Rattle.mode_table.specs.declared.mode.Mode.{Mode}
use Rattle.mode_table.specs.declared.mode.Mode.TheVariants.{FullSupervision, StaffResponsible, Shunting, Unfitted, StandBy, Trip, PostTrip, SystemFailure}
use Rattle.mode_table.specs.Modes.{is_one_of}
use Rattle.odometry.specs.Place.{stays_in_range}
use Rattle.track_picture.specs.History.{place_of, speed_of}
use Rattle.mode_control.specs.History.{tracks}
use Rattle.mode_control.specs.Life.{Life, driver_of}
use Rattle.mode_control.specs.Sentences.{situation}
use Rattle.kernel.specs.Lives.{life_of}
use Rattle.kernel.specs.Output.{output_after}

-- the mode after some events, and after one input more
abbrev pub mode_after : List Event → Mode
mode_after events = (output_after events).mode

abbrev pub mode_beyond : List Event → Input → Mode
mode_beyond events input = mode_after (an_event.Input input ∷ events)

-- the odometer reports a movement out of range: it leads beyond the farthest path or place
pub record IsOverrun (life : Life) (input : Input) : Type 0 where
  pub reading : Reading
  pub is : input ≡ Odometer reading
  pub has_none : stays_in_range (place_of (tracks life.entries)) reading.movement ≡ false

-- the driver does this, it is accepted, and the train stands
pub record IsDoneAtStandstill (life : Life) (input : Input) (action : Action) : Type 0 where
  pub is : input ≡ Driver action
  pub is_accepted : IsTrue (accepts (driver_of life) (situation life) action)
  pub stands : speed_of (tracks life.entries) ≡ 0

-- Trip stays, but for an accepted acknowledgement at standstill, which leads to Post Trip, and for an overrun
abbrev pub TripIsLeft : Type 0
TripIsLeft = (events : List Event) (input : Input) → mode_after events ≡ Trip →
    (mode_beyond events input ≡ Trip)
    ⊎ ((mode_beyond events input ≡ PostTrip) × IsDoneAtStandstill (life_of events) input (Acknowledge kind.Trip))
    ⊎ ((mode_beyond events input ≡ SystemFailure) × IsOverrun (life_of events) input)

-- System Failure stays until a power-up
abbrev pub FailureStays : Type 0
FailureStays = (events : List Event) (input : Input) → mode_after events ≡ SystemFailure → mode_beyond events input ≡ SystemFailure

-- Stand By stays, but for an accepted Start or choice of Shunting at standstill, and for an overrun
abbrev pub modes_by_start : List Mode
modes_by_start = FullSupervision ∷ StaffResponsible ∷ Unfitted ∷ []

abbrev pub StandByIsLeft : Type 0
StandByIsLeft = (events : List Event) (input : Input) → mode_after events ≡ StandBy →
    (mode_beyond events input ≡ StandBy)
    ⊎ (IsTrue (is_one_of modes_by_start (mode_beyond events input)) × IsDoneAtStandstill (life_of events) input Start)
    ⊎ ((mode_beyond events input ≡ Shunting) × IsDoneAtStandstill (life_of events) input ChooseShunting)
    ⊎ ((mode_beyond events input ≡ SystemFailure) × IsOverrun (life_of events) input)
