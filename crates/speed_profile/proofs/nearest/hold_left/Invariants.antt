use Rattle.std.proofs.Common.{◌≡◌, ◌≤◌, ◌++◌, length}
use Rattle.braking.specs.Approaches.{lowered_by}
use Rattle.speed_profile.specs.Targets.{held}
use Rattle.speed_profile.proofs.nearest.hold_left.Given as goal

-- what is held and what is left make of the speed so far what both made of the first one
abbrev pub invariant-loop-target : goal.invariant-loop-target
invariant-loop-target g l = record {
  length : 1 ≤ length l.nearest;
  requested : lowered_by (g.G.Profile.value l.approach.gradient) (held l.nearest ++ l.others.targets) l.approach
      ≡ lowered_by (g.G.Profile.value l.fn.approach.gradient) (held l.fn.nearest ++ l.fn.others.targets) l.fn.approach;
}
