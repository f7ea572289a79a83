use Rattle.std.proofs.Common.{length}
use Rattle.speed_profile.specs.Ahead.{over_ahead, restriction_targets}
use Rattle.speed_profile.specs.Targets.{AskTheSameOf}
use Rattle.speed_profile.proofs.targets.restricted.RestrictionTargets.skip_fitting.Given as goal

-- what is left asks what all did
abbrev pub invariant-loop-first : goal.invariant-loop-first
invariant-loop-first g l =
    AskTheSameOf (g.G.Profile.value l.approach.gradient) l.approach l.fn.self.targets
    (over_ahead l.self-inside.front (restriction_targets l.self-inside.mark l.self-inside.left.now))

abbrev pub decreases-loop-first : goal.decreases-loop-first
decreases-loop-first g l = length l.self-inside.left.now
