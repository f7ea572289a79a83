use Rattle.simulator.proofs.TextAnswers.{life_or_fault}
use Rattle.simulator.proofs.laws.describes_or_fails.Goals as goal

pub returns : goal.returns
returns c = life_or_fault
