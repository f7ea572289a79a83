use Rattle.std.proofs.Common.{rules}
use Rattle.driver.proofs.driver.Driver.turn.Goals as goal

pub returns-then-matches-2 : goal.returns-then-matches-2
returns-then-matches-2 c = search rules
