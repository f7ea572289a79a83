-- The life that the JSON value of a scenario asks for, or its first fault (this project's profile). Distances are
-- centimetres, speeds metres per hour, moments milliseconds.
use Rattle.std.specs.Prelude.{ℕ, ◌&&◌, ℤ, List, [], ◌∷◌, ◌++◌, length, codes, is_some, Bool, if◌then◌else◌, Option, Some, None, Result, Ok}
use Rattle.serde_json.specs.Data.{Data}
use Rattle.serde_json.specs.Find.{get}
use Rattle.mode_table.specs.declared.statuses.Cold.{Cold}
use Rattle.mode_table.specs.declared.statuses.Cold.TheVariants.{Unknown}
use Rattle.mode_table.specs.Numbers.{cold_by}
use Rattle.events.specs.declared.step.Step.{Step}
use Rattle.simulator.specs.Passing.{passed}
use Rattle.simulator.specs.Course.{Run, start, taken, ended}
use Rattle.simulator.specs.declared.balise.Balise.{Balise}
use Rattle.simulator.specs.Values.{◌>>=◌, shaped, given, whole, items_at, numbered}
use Rattle.simulator.specs.Shapes.{has_members}
use Rattle.simulator.specs.Groups.{groups}
use Rattle.simulator.specs.Steps.{step_of}
use Rattle.simulator.specs.declared.fault.ScenarioFault.{ScenarioFault}
use Rattle.simulator.specs.declared.fault.ScenarioFault.TheVariants.{Shape}

-- the steps in order, up to the first fault
abbrev pub lived : (ℤ → ℕ → List Balise) → List Data → Run → Result Run ScenarioFault
lived ahead [] r = Ok r
lived ahead (d ∷ ds) r = do
  step ← step_of d
  lived ahead ds (taken ahead step r)

unfoldable pub steps_in : (ℤ → ℕ → List Balise) → List Data → Result (List Step) ScenarioFault
steps_in ahead ds = do
  run ← lived ahead ds start
  Ok (ended run).steps

-- the keys groups and steps, and no other one but cold
unfoldable pub has_keys : Data → Bool
has_keys d = has_members (if is_some (get (codes "cold") d) then 3 else 2) d && is_some (get (codes "groups") d) && is_some (get (codes "steps") d)

-- whether the train was moved without power
abbrev pub cold_value : ℤ → Result Cold ScenarioFault
cold_value z = numbered cold_by z

unfoldable pub cold_of : Option Data → Result Cold ScenarioFault
cold_of None = Ok Unknown
cold_of (Some v) = shaped (whole v) >>= cold_value

-- the cold movement value and the steps of a life, or the first fault
unfoldable pub life_in : Data → Result (Cold × List Step) ScenarioFault
life_in d = do
  _ ← given (has_keys d) Shape
  cold ← cold_of (get (codes "cold") d)
  laid ← items_at (codes "groups") d
  balises ← groups laid []
  items ← items_at (codes "steps") d
  steps ← steps_in (passed balises) items
  Ok (cold, steps)

-- ---- which steps of the life come from which step of the scenario

-- after each step of the scenario, how many steps the life has so far
abbrev pub ends_by : (ℤ → ℕ → List Balise) → List Data → Run → List ℕ → Result (List ℕ) ScenarioFault
ends_by ahead [] r ends = Ok ends
ends_by ahead (d ∷ ds) r ends = do
  step ← step_of d
  ends_by ahead ds (taken ahead step r) (ends ++ length (taken ahead step r).steps ∷ [])

-- .. of all steps of a value
unfoldable pub ends_in : Data → Result (List ℕ) ScenarioFault
ends_in d = do
  laid ← items_at (codes "groups") d
  balises ← groups laid []
  items ← items_at (codes "steps") d
  ends_by (passed balises) items start []
