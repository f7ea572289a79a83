use Rattle.track_picture.proofs.Placed.{place_is_read}
use Rattle.track_picture.proofs.ending.place_is_read.Goals as goal

pub returns : goal.returns
returns c = place_is_read
