use Rattle.std.proofs.Common.{rules}
use Rattle.areas.proofs.acknowledgement.Acknowledgement.brakes.Goals as goal

pub returns-in-Owed : goal.returns-in-Owed
returns-in-Owed c = search rules
