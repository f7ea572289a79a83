use Rattle.track_picture.proofs.Counted.{ended_counts_no_more}
use Rattle.track_picture.proofs.ending.ended_counts_no_more.Goals as goal

pub returns : goal.returns
returns c = ended_counts_no_more
