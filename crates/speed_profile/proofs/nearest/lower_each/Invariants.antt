use Rattle.std.proofs.Common.{◌≡◌, ◌++◌, drop}
use Rattle.braking.specs.Approaches.{lowered_by}
use Rattle.speed_profile.specs.Targets.{held}
use Rattle.speed_profile.proofs.nearest.lower_each.Given as goal

-- what is left of both makes of the speed so far what all makes of the first one
abbrev pub invariant-loop-step : goal.invariant-loop-step
invariant-loop-step g l =
    lowered_by (g.G.Profile.value l.approach.gradient) (l.speeds.targets ++ held (drop l.step l.nearest)) l.approach
    ≡ lowered_by (g.G.Profile.value l.fn.approach.gradient) (l.fn.speeds.targets ++ held (drop l.first l.nearest)) l.fn.approach
