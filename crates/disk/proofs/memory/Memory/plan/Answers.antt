use Rattle.std.proofs.Common.{arith}
use Rattle.disk.proofs.memory.Memory.plan.Goals as goal

pub returns-clause-since : goal.returns-clause-since
returns-clause-since c = omega arith
