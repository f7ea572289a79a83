use Rattle.driver.proofs.Overridden.{overridden_so}
use Rattle.driver.proofs.laws.overridden_so.Goals as goal

pub returns : goal.returns
returns c = overridden_so
