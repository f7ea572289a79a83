use Rattle.std.proofs.Common.{rules}
use Rattle.authority.proofs.timers.is_over.Goals as goal

pub returns-in-Some : goal.returns-in-Some
returns-in-Some c = search rules
