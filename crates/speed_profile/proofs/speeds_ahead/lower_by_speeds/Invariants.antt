use Rattle.std.proofs.Common.{◌≡◌}
use Rattle.braking.specs.Approaches.{lowered_by}
use Rattle.speed_profile.proofs.Starting.{turns_left}
use Rattle.speed_profile.proofs.speeds_ahead.lower_by_speeds.Given as goal

-- what is left makes of the speed so far what all makes of the first one
abbrev pub invariant-loop-place : goal.invariant-loop-place
invariant-loop-place g l =
    lowered_by (g.G.Profile.value l.approach.gradient) l.speeds.targets l.approach
    ≡ lowered_by (g.G.Profile.value l.fn.approach.gradient) l.fn.speeds.targets l.fn.approach

abbrev pub decreases-loop-place : goal.decreases-loop-place
decreases-loop-place g l = turns_left l.speeds.speeds_from l.speeds.most
