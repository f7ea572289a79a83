use Rattle.track_picture.proofs.ByLine.{none_at_power_up}
use Rattle.track_picture.proofs.ending.none_at_power_up.Goals as goal

pub returns : goal.returns
returns c = none_at_power_up
