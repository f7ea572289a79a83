-- Why a scenario isn't played (this project's profile).
use Rattle.std.specs.Prelude.{◌≡◌, ◌⊎◌, ℕ, ◌<◌, Err}
use Rattle.blocks.specs.FirstSector.{least_slots, most_slots}
use Rattle.serde_json.specs.Data.{Data}
use Rattle.simulator.specs.Lives.{life_in}
use Rattle.simulator.specs.declared.fault.ScenarioFault.{ScenarioFault}
use Rattle.simulator.specs.declared.fault.ScenarioFault.TheVariants as a_fault
use Rattle.scenario_player.specs.declared.error.PlayError.{PlayError}
use Rattle.scenario_player.specs.declared.error.PlayError.TheVariants.{BadSlots, Scenario, NoMemory}

-- no journal has so many slots
abbrev pub HasNoJournal : ℕ → Type 0
HasNoJournal slots = (slots < least_slots) ⊎ (most_slots < slots)

-- the error for a fault of the simulator
abbrev pub error_of : ScenarioFault → PlayError
error_of a_fault.NotJson = Scenario a_fault.NotJson
error_of a_fault.Shape = Scenario a_fault.Shape
error_of a_fault.OutOfRange = Scenario a_fault.OutOfRange
error_of a_fault.BadHex = Scenario a_fault.BadHex
error_of a_fault.NoMemory = NoMemory

-- The cause of each error: the number of slots, the first fault of the value, or memory that was refused, of which
-- nothing is said.
abbrev pub IsCause : Data → ℕ → PlayError → Type 0
IsCause value slots BadSlots = HasNoJournal slots
IsCause value slots (Scenario fault) = life_in value ≡ Err fault
IsCause value slots NoMemory = Unit {0}

-- the same of a life after others, whose journal has been made
abbrev pub IsCauseAfter : Data → PlayError → Type 0
IsCauseAfter value BadSlots = ⊥
IsCauseAfter value (Scenario fault) = life_in value ≡ Err fault
IsCauseAfter value NoMemory = Unit {0}
