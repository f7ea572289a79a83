use Rattle.whole_lives.proofs.WholeLives.{lives_on}
use Rattle.whole_lives.proofs.laws.lives_compose.Goals as goal

pub returns : goal.returns
returns c = lives_on
