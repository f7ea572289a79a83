use Rattle.std.proofs.Common.{◌≤◌}
use Rattle.speed_profile.specs.Targets.{AskTheSame}
use Rattle.speed_profile.proofs.targets.speeds.SpeedTargetsIterator.next.Given as goal

-- what was looked at so far asked nothing
abbrev pub invariant-loop-self : goal.invariant-loop-self
invariant-loop-self g l = AskTheSame l.fn.self.targets l.self.targets × (l.self.most ≤ l.fn.self.most)

abbrev pub decreases-loop-self : goal.decreases-loop-self
decreases-loop-self g l = l.self.most
