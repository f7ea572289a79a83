use Rattle.std.proofs.Common.{rules}
use Rattle.linking.proofs.links.Links.judged.Goals as goal

pub returns-in-None : goal.returns-in-None
returns-in-None c = search rules
