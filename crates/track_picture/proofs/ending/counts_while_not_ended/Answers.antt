use Rattle.track_picture.proofs.Counted.{counts_while_not_ended}
use Rattle.track_picture.proofs.ending.counts_while_not_ended.Goals as goal

pub returns : goal.returns
returns c = counts_while_not_ended
