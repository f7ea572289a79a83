use Rattle.std.proofs.Common.{◌≡◌, ◌++◌, ◌+◌, ◌*◌, ◌≤◌, drop, length}
use Rattle.std.specs.Int.RustNames.{unsigned_abs}
use Rattle.units.specs.Limits.{farthest, reach}
use Rattle.speed_profile.specs.Reported.{gradient_steps_from, gradient_steps}
use Rattle.speed_profile.proofs.reported.gradients.Given as goal

-- the steps so far and those of the rest are those of all
abbrev pub invariant-loop-gradient : goal.invariant-loop-gradient
invariant-loop-gradient l = record {
  all : l.steps.items ++ gradient_steps_from l.packet.scale l.at (drop l.gradient-index l.packet.gradients.items)
      ≡ gradient_steps l.fn.place l.fn.packet;
  count : length l.steps.items ≡ l.gradient-index;
  near : unsigned_abs l.at ≤ 3 * farthest + l.gradient-index * reach;
}
