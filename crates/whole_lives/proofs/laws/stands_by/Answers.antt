use Rattle.std.proofs.Common.{refl}
use Rattle.whole_lives.proofs.laws.stands_by.Goals as goal

pub returns : goal.returns
returns c = λ p recorded_cold. refl
