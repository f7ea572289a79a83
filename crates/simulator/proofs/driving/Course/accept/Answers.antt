use Rattle.std.proofs.Common.{rules}
use Rattle.simulator.proofs.driving.Course.accept.Goals as goal

pub returns : goal.returns
returns c = search rules
