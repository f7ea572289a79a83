-- The driver's actions in a scenario: a list of a code and its values (this project's profile).
-- A length is centimetres, a speed metres per hour, a deceleration cm/s^2, a reaction time milliseconds.
use Rattle.std.specs.Prelude.{ℕ, ◌==◌, ◌&&◌, nat_le, ℤ, List, length, Bool, if◌then◌else◌, Result, Ok, Err}
use Rattle.std.specs.List.{list_all}
use Rattle.serde_json.specs.Data.{Data}
use Rattle.mode_table.specs.declared.level.TrainLevel.{TrainLevel}
use Rattle.mode_table.specs.Numbers.{level_by}
use Rattle.brakes.specs.declared.brakes.Brakes.{Brakes}
use Rattle.driver.specs.declared.action.Action.{Action}
use Rattle.driver.specs.declared.action.Action.TheVariants.{EnterIdentity, EnterRunningNumber, EnterTrainData, ChooseLevel, Confirm, Start, ChooseShunting, LeaveShunting, Override, Acknowledge, CloseDesk}
use Rattle.driver.specs.declared.action_kind.ActionKind.{ActionKind}
use Rattle.driver.specs.declared.action_kind.ActionKind.TheVariants as a_kind
use Rattle.driver.specs.declared.action.Confirmed.{Confirmed}
use Rattle.driver.specs.Numbers.{action_by, item_by, reason_by}
use Rattle.driver.specs.declared.action.Acknowledged.{Acknowledged}
use Rattle.simulator.specs.Values.{◌>>=◌, given, whole_item, text_item, within, numbered}
use Rattle.simulator.specs.declared.fault.ScenarioFault.{ScenarioFault}
use Rattle.simulator.specs.declared.fault.ScenarioFault.TheVariants.{Shape, OutOfRange}

-- 1 to 16 printable characters
abbrev pub is_identity : List ℕ → Bool
is_identity text = nat_le 1 (length text) && nat_le (length text) 16 && list_all (λ byte. nat_le 0x20 byte && nat_le byte 0x7E) text

abbrev pub level : ℤ → Result TrainLevel ScenarioFault
level z = numbered level_by z

abbrev pub confirmed : ℤ → Result Confirmed ScenarioFault
confirmed z = numbered item_by z

abbrev pub acknowledged : ℤ → Result Acknowledged ScenarioFault
acknowledged z = numbered reason_by z

-- ---- actions with values after their code

abbrev pub identity : List ℕ → Result Action ScenarioFault
identity text = if is_identity text then Ok (EnterIdentity text) else Err OutOfRange

unfoldable pub entered_identity : List Data → Result Action ScenarioFault
entered_identity ds = do
  _ ← given (length ds == 2) Shape
  text ← text_item ds 1
  identity text

-- one whole number
unfoldable pub lone_value : List Data → Result ℤ ScenarioFault
lone_value ds = do
  _ ← given (length ds == 2) Shape
  whole_item ds 1

unfoldable pub entered_number : List Data → Result Action ScenarioFault
entered_number ds = do
  z ← lone_value ds
  number ← within 0 99_999_999 z
  Ok (EnterRunningNumber number)

-- a train of such a length, greatest speed, deceleration, reaction time and category
abbrev pub brakes : ℤ → ℤ → Result Brakes ScenarioFault
brakes rate time = do
  deceleration ← within 1 300 rate
  reaction ← within 0 10_000 time
  Ok (record { deceleration = deceleration; reaction = reaction })

unfoldable pub train : ℤ → ℤ → ℤ → ℤ → ℤ → Result Action ScenarioFault
train cm mph rate time kind = do
  length ← within 1 409_500 cm
  maximum ← within 1 600_000 mph
  brakes ← brakes rate time
  category ← within 0 15 kind
  Ok (EnterTrainData (record { length = length; maximum = maximum; category = category; brakes = brakes }))

unfoldable pub entered_train : List Data → Result Action ScenarioFault
entered_train ds = do
  _ ← given (length ds == 6) Shape
  cm ← whole_item ds 1
  mph ← whole_item ds 2
  rate ← whole_item ds 3
  time ← whole_item ds 4
  kind ← whole_item ds 5
  train cm mph rate time kind

unfoldable pub chosen_level : List Data → Result Action ScenarioFault
chosen_level ds = do
  z ← lone_value ds
  level ← level z
  Ok (ChooseLevel level)

unfoldable pub confirmed_item : List Data → Result Action ScenarioFault
confirmed_item ds = do
  z ← lone_value ds
  item ← confirmed z
  Ok (Confirm item)

unfoldable pub acknowledged_kind : List Data → Result Action ScenarioFault
acknowledged_kind ds = do
  z ← lone_value ds
  kind ← acknowledged z
  Ok (Acknowledge kind)

-- an action without values
unfoldable pub bare : Action → List Data → Result Action ScenarioFault
bare action ds = do
  _ ← given (length ds == 1) Shape
  Ok action

-- ---- all of them, by their codes

-- what there is, or Shape in place of any fault
abbrev pub or_shape : {A : Type 0} → Result A ScenarioFault → Result A ScenarioFault
or_shape (Ok x) = Ok x
or_shape (Err fault) = Err Shape

-- the kind that a code reports
abbrev pub kind_reported : ℤ → Result ActionKind ScenarioFault
kind_reported code = or_shape (numbered action_by code)

unfoldable pub by_kind : ActionKind → List Data → Result Action ScenarioFault
by_kind a_kind.EnterIdentity ds = entered_identity ds
by_kind a_kind.EnterRunningNumber ds = entered_number ds
by_kind a_kind.EnterTrainData ds = entered_train ds
by_kind a_kind.ChooseLevel ds = chosen_level ds
by_kind a_kind.Confirm ds = confirmed_item ds
by_kind a_kind.Start ds = bare Start ds
by_kind a_kind.ChooseShunting ds = bare ChooseShunting ds
by_kind a_kind.LeaveShunting ds = bare LeaveShunting ds
by_kind a_kind.Override ds = bare Override ds
by_kind a_kind.Acknowledge ds = acknowledged_kind ds
by_kind a_kind.CloseDesk ds = bare CloseDesk ds

unfoldable pub action : List Data → Result Action ScenarioFault
action ds = do
  code ← whole_item ds 0
  kind ← kind_reported code
  by_kind kind ds
