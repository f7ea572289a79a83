use Rattle.std.proofs.Common.{pos, ◌+ℤ◌}
use Rattle.speed_profile.specs.Ahead.{static_targets}
use Rattle.speed_profile.proofs.Starting.{first_rest}
use Rattle.speed_profile.proofs.targets.speeds.SpeedTargets.new.Goals as goal

pub returns : goal.returns
returns g c =
    first_rest (static_targets c.args.bounds.now (g.S.Profile.value c.args.speeds.now)) (c.args.front +ℤ pos 1) c.next_after.result c.next_after.ensures
