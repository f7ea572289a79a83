use Rattle.std.proofs.Common.{◌≡◌, ℕ, ◌<◌, length, get_or}
use Rattle.speed_profile.specs.Reported.{speed_for}
use Rattle.speed_profile.proofs.reported.speeds_for.Given as goal

-- the speeds so far
abbrev pub invariant-loop-category : goal.invariant-loop-category
invariant-loop-category l =
    (length l.speeds ≡ 16) × ((k : ℕ) → k < l.category → get_or l.speeds k 0 ≡ speed_for l.basic l.differences k)
