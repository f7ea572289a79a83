use Rattle.whole_lives.proofs.Chains.{any_number}
use Rattle.whole_lives.proofs.laws.releases_stay.Goals as goal

pub returns : goal.returns
returns c = any_number
