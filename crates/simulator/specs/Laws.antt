-- What follows from the definition of a scenario's text (this project's profile).
use Rattle.std.specs.Prelude.{◌≡◌, ◌⊎◌, ◌↔◌, ℕ, List}
use Rattle.serde_json.specs.Data.{Data}
use Rattle.mode_table.specs.declared.statuses.Cold.{Cold}
use Rattle.events.specs.declared.step.Step.{Step}
use Rattle.simulator.specs.declared.fault.ScenarioFault.{ScenarioFault}
use Rattle.simulator.specs.declared.fault.ScenarioFault.TheVariants.{NotJson}
use Rattle.simulator.specs.Scenarios.{IsReading, Describes, FaultOf}

-- NotJson comes exactly where a text has no reading as a JSON value.
abbrev pub NotJsonExactly : Type 0
NotJsonExactly = (bytes : List ℕ) → FaultOf bytes NotJson ↔ ((d : Data) → ¬ IsReading bytes d)

abbrev pub DescribesALife : List ℕ → Type 0
DescribesALife bytes = (cold : Cold) × (steps : List Step) × Describes bytes cold steps

abbrev pub HasAFault : List ℕ → Type 0
HasAFault bytes = (fault : ScenarioFault) × FaultOf bytes fault

-- Each text reports a life, or has a first fault.
abbrev pub DescribesOrFails : Type 0
DescribesOrFails = (bytes : List ℕ) → DescribesALife bytes ⊎ HasAFault bytes

-- No text has both, and none has two of either.
pub record OneAnswer : Type 0 where
  pub either : (bytes : List ℕ) → DescribesALife bytes → HasAFault bytes → ⊥
  pub life : (bytes : List ℕ) (c e : Cold) (s t : List Step) → Describes bytes c s → Describes bytes e t → (c ≡ e) × (s ≡ t)
  pub fault : (bytes : List ℕ) (f g : ScenarioFault) → FaultOf bytes f → FaultOf bytes g → f ≡ g
