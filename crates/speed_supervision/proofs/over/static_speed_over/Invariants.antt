use Rattle.std.proofs.Common.{◌≤ℤ◌}
use Rattle.units.specs.Stretches.{count_between}
use Rattle.speed_supervision.proofs.Naming.{NoneBefore}
use Rattle.speed_supervision.proofs.over.static_speed_over.Given as goal

abbrev pub invariant-loop-category : goal.invariant-loop-category
invariant-loop-category g l =
    (l.train.rear ≤ℤ l.place) × NoneBefore (g.S.Profile.value l.speeds) l.category l.train l.limit l.place

-- how many centimetres are left
abbrev pub decreases-loop-category : goal.decreases-loop-category
decreases-loop-category g l = count_between l.place l.last
