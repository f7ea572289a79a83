use Rattle.track_picture.proofs.Carrying.{carried_in, in_carried}
use Rattle.track_picture.proofs.laws.telegrams_are_carried.Goals as goal

pub returns : goal.returns
returns c bytes t = (in_carried bytes t, carried_in bytes t)
