use Rattle.std.proofs.Common.{rules}
use Rattle.disk.proofs.durable.put.Goals as goal

pub returns-clause-synced : goal.returns-clause-synced
returns-clause-synced g c = search rules
