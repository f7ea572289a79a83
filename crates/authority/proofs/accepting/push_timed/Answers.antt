use Rattle.std.proofs.Common.{rules}
use Rattle.authority.proofs.accepting.push_timed.Goals as goal

pub returns-in-Some-clause-items : goal.returns-in-Some-clause-items
returns-in-Some-clause-items c = search rules
