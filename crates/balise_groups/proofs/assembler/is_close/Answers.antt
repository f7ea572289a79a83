use Rattle.std.proofs.Common.{rules}
use Rattle.balise_groups.proofs.assembler.is_close.Goals as goal

pub returns : goal.returns
returns c = search rules
