-- What a step of a scenario asks for (this project's profile). Distances are centimetres, speeds metres per hour,
-- moments milliseconds.
use Rattle.std.specs.Prelude.{◌==◌, ◌-◌, ◌&&◌, pos, int_le, length, codes, if◌then◌else◌, Option, Some, None, Result, Ok, Err}
use Rattle.serde_json.specs.Data.{Data}
use Rattle.serde_json.specs.Find.{get, as_str, as_bool}
use Rattle.units.specs.Limits.{longest_life}
use Rattle.events.specs.declared.input.Input.TheVariants.{Telegram, Clock, Driver}
use Rattle.simulator.specs.Values.{◌>>=◌, shaped, given, whole, whole_item, within, bytes_in}
use Rattle.simulator.specs.Shapes.{has_members, list_in}
use Rattle.simulator.specs.Limits.{farthest_back, farthest}
use Rattle.simulator.specs.Actions as actions
use Rattle.simulator.specs.declared.step_kinds.StepKind.{StepKind}
use Rattle.simulator.specs.declared.step_kinds.StepKind.TheVariants.{Drive, Happens, Flush}
use Rattle.simulator.specs.declared.fault.ScenarioFault.{ScenarioFault}
use Rattle.simulator.specs.declared.fault.ScenarioFault.TheVariants.{Shape, OutOfRange}

-- so many centimetres at a speed
unfoldable pub drive : Data → Result StepKind ScenarioFault
drive v = do
  items ← shaped (list_in v)
  _ ← given (length items == 2) Shape
  cm ← whole_item items 0
  mph ← whole_item items 1
  _ ← given (int_le farthest_back cm && int_le cm (pos farthest)) OutOfRange
  speed ← within 0 600_000 mph
  Ok (Drive cm speed)

unfoldable pub telegram : Data → Result StepKind ScenarioFault
telegram v = do
  text ← shaped (as_str v)
  bytes ← bytes_in text
  Ok (Happens (Telegram bytes))

unfoldable pub clock : Data → Result StepKind ScenarioFault
clock v = do
  z ← shaped (whole v)
  ms ← within 0 (longest_life - 1) z
  Ok (Happens (Clock ms))

unfoldable pub driver : Data → Result StepKind ScenarioFault
driver v = do
  items ← shaped (list_in v)
  action ← actions.action items
  Ok (Happens (Driver action))

unfoldable pub flush : Data → Result StepKind ScenarioFault
flush v = do
  wanted ← shaped (as_bool v)
  _ ← given wanted Shape
  Ok Flush

-- by the member that is there, or in another way
abbrev pub or_else : Option Data → (Data → Result StepKind ScenarioFault) → Result StepKind ScenarioFault → Result StepKind ScenarioFault
or_else (Some v) this other = this v
or_else None this other = other

unfoldable pub by_key : Data → Result StepKind ScenarioFault
by_key d =
    or_else (get (codes "drive") d) drive
    (or_else (get (codes "telegram") d) telegram
    (or_else (get (codes "clock") d) clock
    (or_else (get (codes "driver") d) driver
    (or_else (get (codes "flush") d) flush (Err Shape)))))

-- an object of one member, whose key says what is asked
unfoldable pub step_of : Data → Result StepKind ScenarioFault
step_of d = if has_members 1 d then by_key d else Err Shape
