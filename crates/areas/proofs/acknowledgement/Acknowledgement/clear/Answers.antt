use Rattle.areas.proofs.Deleting.{deleted}
use Rattle.areas.proofs.acknowledgement.Acknowledgement.clear.Goals as goal

pub returns : goal.returns
returns c = deleted _
