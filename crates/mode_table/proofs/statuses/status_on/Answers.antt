use Rattle.std.proofs.Common.{rules}
use Rattle.mode_table.proofs.statuses.status_on.Goals as goal

pub returns-in_default : goal.returns-in_default
returns-in_default c = search rules
