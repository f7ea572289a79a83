use Rattle.std.proofs.Common.{rules}
use Rattle.areas.proofs.acknowledgement.Acknowledgement.acknowledge.Goals as goal

pub returns-in-Requested : goal.returns-in-Requested
returns-in-Requested c = search rules
