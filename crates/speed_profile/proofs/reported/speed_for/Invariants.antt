use Rattle.std.proofs.Common.{◌≡◌, drop}
use Rattle.speed_profile.specs.Reported.{speed_for}
use Rattle.speed_profile.proofs.reported.speed_for.Given as goal

-- none of the differences so far is the one
abbrev pub invariant-loop-difference : goal.invariant-loop-difference
invariant-loop-difference l =
    speed_for l.basic (drop l.difference-index l.differences) l.category ≡ speed_for l.basic l.differences l.category
