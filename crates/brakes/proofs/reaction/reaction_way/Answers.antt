use Rattle.std.proofs.Common.{rules}
use Rattle.brakes.proofs.reaction.reaction_way.Goals as goal

pub returns-clause-value : goal.returns-clause-value
returns-clause-value c = search rules
