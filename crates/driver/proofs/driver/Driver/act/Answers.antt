use Rattle.std.proofs.Common.{rules}
use Rattle.driver.proofs.driver.Driver.act.Goals as goal

pub returns-after-given : goal.returns-after-given
returns-after-given c = search rules
