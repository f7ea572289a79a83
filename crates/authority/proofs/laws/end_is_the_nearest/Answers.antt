use Rattle.authority.proofs.Nearest.{nearest}
use Rattle.authority.proofs.laws.end_is_the_nearest.Goals as goal

pub returns : goal.returns
returns c = nearest
