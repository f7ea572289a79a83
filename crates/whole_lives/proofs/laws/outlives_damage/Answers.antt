use Rattle.whole_lives.proofs.Damage.{outlives_damage}
use Rattle.whole_lives.proofs.laws.outlives_damage.Goals as goal

pub returns : goal.returns
returns c = outlives_damage
