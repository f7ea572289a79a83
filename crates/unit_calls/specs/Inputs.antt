-- What the numbers that C hands in stand for (this project's profile). Lengths are in centimetres, speeds in metres per
-- hour, decelerations in cm/s^2, times in milliseconds.
use Rattle.std.specs.Prelude.{◌≡◌, ◌↔◌, ℕ, ◌<◌, ◌==◌, if◌then◌else◌, Option, Some, None, IsSome, IfSome}
use Rattle.brakes.specs.Limits.{IsDeceleration, IsReaction}
use Rattle.driver.specs.Limits.{Train, IsTrainLength, IsTrainMaximum}
use Rattle.driver.specs.declared.action.Acknowledged.TheVariants as acknowledged
use Rattle.driver.specs.declared.action.Action.{Action}
use Rattle.driver.specs.declared.action.Action.TheVariants as an_action
use Rattle.driver.specs.declared.action.Confirmed.TheVariants as confirmed
use Rattle.events.specs.declared.input.Input.{Input}
use Rattle.events.specs.declared.input.Input.TheVariants.{Driver}
use Rattle.mode_table.specs.declared.level.TrainLevel.TheVariants.{Level0, Level1}
use Rattle.unit_calls.specs.declared.inputs.EtcsTrainData.{EtcsTrainData}

-- an input is reported exactly where this holds, and then it is this one
abbrev pub Describes : Type 0 → Input → Option Input → Type 0
Describes Within input reported = (IsSome reported ↔ Within) × IfSome reported (λ converted. converted ≡ input)

-- an action is reported exactly where there is one, and then it is this one
abbrev pub ActsAs : Option Action → Option Input → Type 0
ActsAs action reported = (IsSome reported ↔ IsSome action) × IfSome reported (λ converted. IfSome action (λ does. converted ≡ Driver does))

-- within the limits of train data
abbrev pub AreTrainData : EtcsTrainData → Type 0
AreTrainData train = IsTrainLength train.length × IsTrainMaximum train.maximum × (train.category < 16)
    × IsDeceleration train.deceleration × IsReaction train.reaction

abbrev pub train_of : EtcsTrainData → Train
train_of train = record {
  length = train.length;
  maximum = train.maximum;
  category = train.category;
  brakes = record { deceleration = train.deceleration; reaction = train.reaction };
}

-- the action of the driver by its number
abbrev pub action_by : ℕ → Option Action
action_by number =
    if number == 1 then Some (an_action.ChooseLevel Level0)
    else if number == 2 then Some (an_action.ChooseLevel Level1)
    else if number == 3 then Some (an_action.Confirm confirmed.Identity)
    else if number == 4 then Some (an_action.Confirm confirmed.RunningNumber)
    else if number == 5 then Some (an_action.Confirm confirmed.TrainData)
    else if number == 6 then Some (an_action.Confirm confirmed.Level)
    else if number == 7 then Some an_action.Start
    else if number == 8 then Some an_action.ChooseShunting
    else if number == 9 then Some an_action.LeaveShunting
    else if number == 10 then Some an_action.Override
    else if number == 11 then Some (an_action.Acknowledge acknowledged.Trip)
    else if number == 12 then Some (an_action.Acknowledge acknowledged.OnSight)
    else if number == 13 then Some (an_action.Acknowledge acknowledged.Shunting)
    else if number == 14 then Some (an_action.Acknowledge acknowledged.Level0)
    else if number == 15 then Some an_action.CloseDesk
    else None
