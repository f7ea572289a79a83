use Rattle.speed_profile.proofs.Asking.{lowered_between}
use Rattle.speed_profile.proofs.speeds_ahead.lower_up_to.Goals as goal

pub returns : goal.returns
returns g c others =
    lowered_between g.G.Profile.value c.loop-place.speeds.targets c.args.speeds.now.targets others c.args.target.now
    c.args.approach.now c.loop-place.approach c.lower.new.self c.loop-place.invariant c.lower.ensures
