use Rattle.speed_profile.specs.Targets.{AskTheSameOf}
use Rattle.speed_profile.proofs.nearest.next_to_brake_for.Given as goal

-- what is left asks what all did
abbrev pub invariant-loop-target : goal.invariant-loop-target
invariant-loop-target g l =
    AskTheSameOf (g.G.Profile.value l.approach.gradient) l.approach l.fn.others.targets l.others.targets
