use Rattle.std.proofs.Common.{rules}
use Rattle.mode_table.proofs.statuses.power_up_status.Goals as goal

pub returns-in-Unknown : goal.returns-in-Unknown
returns-in-Unknown c = search rules
