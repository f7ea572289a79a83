use Rattle.replaying.proofs.Units.{units_agree}
use Rattle.replaying.proofs.laws.units_agree.Goals as goal

pub returns : goal.returns
returns c = units_agree
