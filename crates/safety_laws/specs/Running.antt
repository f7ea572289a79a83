-- What a train runs by, and a trip that isn't acknowledged (SUBSET-026, 4.4, 4.10 and 5.11; the statuses: this project's
-- profile). Lists of events have the newest first, over any number of lives.
--
-- They don't say that valid data are those of this train, nor that an authority that is stored was meant for it.
use Rattle.std.specs.Prelude.{◌≡◌, List, [], ◌∷◌, IsTrue, Some}
use Rattle.authority.specs.Authority.{end_of}
use Rattle.authority.specs.declared.answers.End.{End}
use Rattle.driver.specs.Data.{is_valid}
use Rattle.driver.specs.Laws.{HasTripped}
use Rattle.events.specs.declared.input.Event.{Event}
use Rattle.events.specs.declared.output.Brake.TheVariants as brake
use Rattle.mode_table.specs.declared.mode.Mode.{Mode}
use Rattle.mode_table.specs.declared.mode.Mode.TheVariants.{FullSupervision, OnSight, StaffResponsible, Unfitted, Trip, PostTrip}
use Rattle.mode_table.specs.Modes.{is_one_of}
use Rattle.track_picture.specs.History.{authorities}
use Rattle.mode_control.specs.History.{tracks}
use Rattle.mode_control.specs.Life.{driver_of}
use Rattle.kernel.specs.Laws.{all_deeds}
use Rattle.kernel.specs.Lives.{life_of}
use Rattle.kernel.specs.Output.{output_after}

-- the modes in which a train runs by its data, and the two that follow a trip: all but Stand By, Shunting and System
-- Failure
abbrev pub modes_by_data : List Mode
modes_by_data = FullSupervision ∷ OnSight ∷ StaffResponsible ∷ Unfitted ∷ Trip ∷ PostTrip ∷ []

-- in each of them the train data are valid
abbrev pub RunsByValidData : Type 0
RunsByValidData = (events : List Event) → IsTrue (is_one_of modes_by_data (output_after events).mode) →
    IsTrue (is_valid (driver_of (life_of events)).train_data)

-- the modes in which a train runs by a movement authority
abbrev pub modes_by_authority : List Mode
modes_by_authority = FullSupervision ∷ OnSight ∷ []

-- in both of them an authority is stored, and so its end is known
abbrev pub RunsByAuthority : Type 0
RunsByAuthority = (events : List Event) → IsTrue (is_one_of modes_by_authority (output_after events).mode) →
    (end : End) × (end_of (authorities (tracks (life_of events).entries)) ≡ Some end)

-- while a trip that was entered in any life isn't acknowledged, the emergency brake is commanded, over any loss of power
abbrev pub OutstandingTripBrakes : Type 0
OutstandingTripBrakes = (events : List Event) → HasTripped (all_deeds events) → (output_after events).brake ≡ brake.Emergency
