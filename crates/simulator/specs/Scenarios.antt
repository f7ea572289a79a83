-- What a scenario asks for, read off the bytes of its file (this project's profile). Distances are centimetres, speeds
-- metres per hour, moments milliseconds.
use Rattle.std.specs.Prelude.{◌≡◌, ◌⊎◌, IsUtf8, ℕ, List, Some, Ok, Err}
use Rattle.serde_json.specs.Data.{Data}
use Rattle.serde_json.specs.Read.{read}
use Rattle.mode_table.specs.declared.statuses.Cold.{Cold}
use Rattle.events.specs.declared.step.Step.{Step}
use Rattle.simulator.specs.Lives.{life_in, ends_in}
use Rattle.simulator.specs.declared.fault.ScenarioFault.{ScenarioFault}
use Rattle.simulator.specs.declared.fault.ScenarioFault.TheVariants.{NotJson}

-- the value that a text is
abbrev pub IsReading : List ℕ → Data → Type 0
IsReading bytes d = IsUtf8 bytes × (read bytes ≡ Some d)

-- The bytes say such a life.
abbrev pub Describes : List ℕ → Cold → List Step → Type 0
Describes bytes cold steps = (d : Data) × IsReading bytes d × (life_in d ≡ Ok (cold, steps))

-- Why they say none: they are no JSON value, or their value has this first fault.
abbrev pub FaultOf : List ℕ → ScenarioFault → Type 0
FaultOf bytes fault =
    ((fault ≡ NotJson) × ((d : Data) → ¬ IsReading bytes d))
    ⊎ ((d : Data) × IsReading bytes d × (life_in d ≡ Err fault))

-- Of each step of the scenario, how many steps its life has up to the end of it.
abbrev pub DescribesEnds : List ℕ → List ℕ → Type 0
DescribesEnds bytes ends = (d : Data) × IsReading bytes d × (ends_in d ≡ Ok ends)

-- Why they say none: they are no JSON value, or their value has this first fault among its groups and steps.
abbrev pub EndsFault : List ℕ → ScenarioFault → Type 0
EndsFault bytes fault =
    ((fault ≡ NotJson) × ((d : Data) → ¬ IsReading bytes d))
    ⊎ ((d : Data) × IsReading bytes d × (ends_in d ≡ Err fault))
