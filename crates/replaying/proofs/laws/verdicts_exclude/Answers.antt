use Rattle.replaying.proofs.Excluding.{excluded}
use Rattle.replaying.proofs.laws.verdicts_exclude.Goals as goal

pub returns : goal.returns
returns c = excluded
