use Rattle.safety_laws.proofs.AuthorityLater.{never_forward}
use Rattle.safety_laws.proofs.ends.end_never_moves_forward.Goals as goal

pub returns : goal.returns
returns c events input new none order is = never_forward events input new none order is
