-- The numbers and the names by which refusals are reported (this project's profile).
use Rattle.std.specs.Prelude.{ℕ, List, codes}
use Rattle.simulator.specs.declared.fault.ScenarioFault.{ScenarioFault}
use Rattle.simulator.specs.declared.fault.ScenarioFault.TheVariants as a_fault

abbrev pub fault_number : ScenarioFault → ℕ
fault_number a_fault.NotJson = 1
fault_number a_fault.Shape = 2
fault_number a_fault.OutOfRange = 3
fault_number a_fault.BadHex = 4
fault_number a_fault.NoMemory = 5

abbrev pub fault_name : ScenarioFault → List ℕ
fault_name a_fault.NotJson = codes "NotJson"
fault_name a_fault.Shape = codes "Shape"
fault_name a_fault.OutOfRange = codes "OutOfRange"
fault_name a_fault.BadHex = codes "BadHex"
fault_name a_fault.NoMemory = codes "NoMemory"
