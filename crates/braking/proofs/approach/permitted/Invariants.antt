use Rattle.std.proofs.Common.{◌≡◌, drop}
use Rattle.braking.specs.Approaches.{lowered_by}
use Rattle.braking.proofs.approach.permitted.Given as goal

-- the rest of the targets make of the speed so far what all make of the limit
abbrev pub invariant-loop-target : goal.invariant-loop-target
invariant-loop-target g l =
    lowered_by (g.P.Profile.value l.approach.gradient) (drop l.target-index l.targets) l.approach
    ≡ lowered_by (g.P.Profile.value l.initial.approach.gradient) l.targets l.initial.approach
