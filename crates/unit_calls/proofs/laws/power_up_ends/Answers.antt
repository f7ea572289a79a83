use Rattle.unit_calls.proofs.Ending.{power_up_ends}
use Rattle.unit_calls.proofs.laws.power_up_ends.Goals as goal

pub returns : goal.returns
returns c = power_up_ends
