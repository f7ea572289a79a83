use Rattle.std.proofs.Common.{rules}
use Rattle.odometry.proofs.fix.Fix.uncertainty_at.Goals as goal

pub returns-clause-value : goal.returns-clause-value
returns-clause-value c = search rules
