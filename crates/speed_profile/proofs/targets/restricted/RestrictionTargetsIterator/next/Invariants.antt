use Rattle.std.proofs.Common.{◌≤◌, length}
use Rattle.speed_profile.specs.Ahead.{over_ahead, restriction_targets}
use Rattle.speed_profile.specs.Targets.{AskTheSame}
use Rattle.speed_profile.proofs.targets.restricted.RestrictionTargetsIterator.next.Given as goal

-- what was looked at so far asked nothing
abbrev pub invariant-loop-first : goal.invariant-loop-first
invariant-loop-first l =
    AskTheSame l.fn.self.targets (over_ahead l.self-inside.front (restriction_targets l.self-inside.mark l.self-inside.left.now))
    × (length l.self-inside.left.now ≤ l.fn.self.most)

abbrev pub decreases-loop-first : goal.decreases-loop-first
decreases-loop-first l = length l.self-inside.left.now
