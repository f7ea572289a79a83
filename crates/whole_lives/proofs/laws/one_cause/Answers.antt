use Rattle.unit_start.proofs.Greatest.{one_cause}
use Rattle.whole_lives.proofs.laws.one_cause.Goals as goal

pub returns : goal.returns
returns c = one_cause
