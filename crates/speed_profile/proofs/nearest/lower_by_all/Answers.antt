use Rattle.std.proofs.Common.{◌++◌, ◌∙◌}
use Rattle.braking.proofs.Approaching.{lowered_from}
use Rattle.speed_profile.proofs.Asking.{lowered_before}
use Rattle.speed_profile.proofs.nearest.lower_by_all.Goals as goal

pub returns : goal.returns
returns g c =
    let left = c.lower_by_piece.new.speeds.targets in
    let others = c.args.others.now.targets in
    c.lower_by_speeds.ensures
    ∙ c.lower_by_others.ensures
    ∙ lowered_from g.G.Profile.value (left ++ others) c.look_for_stop.new.approach c.lower_by_piece.new.approach c.look_for_stop.ensures
    ∙ lowered_before g.G.Profile.value left c.args.speeds.now.targets others c.args.approach.now c.lower_by_piece.new.approach
    c.lower_by_piece.ensures.requested
