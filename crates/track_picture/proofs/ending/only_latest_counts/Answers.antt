use Rattle.track_picture.proofs.OnlyLatest.{only_latest_counts}
use Rattle.track_picture.proofs.ending.only_latest_counts.Goals as goal

pub returns : goal.returns
returns c = only_latest_counts
