use Rattle.std.proofs.Common.{rules}
use Rattle.authority.proofs.stored.Stored.pass.Goals as goal

pub returns : goal.returns
returns c = search rules
