use Rattle.whole_lives.proofs.Stopping.{space_for_others}
use Rattle.whole_lives.proofs.laws.others_have_space.Goals as goal

pub returns : goal.returns
returns c = space_for_others
