use Rattle.std.proofs.Common.{◌≡◌, ◌++◌, ◌+◌, ◌*◌, ◌≤◌, drop, length}
use Rattle.std.specs.Int.RustNames.{unsigned_abs}
use Rattle.units.specs.Limits.{farthest, reach}
use Rattle.speed_profile.specs.Reported.{speed_steps_from, speed_steps}
use Rattle.speed_profile.proofs.reported.static_speeds.Given as goal

-- the steps so far and those of the rest are those of all
abbrev pub invariant-loop-step : goal.invariant-loop-step
invariant-loop-step l = record {
  all : l.steps.items ++ speed_steps_from l.packet.scale l.at (drop l.step-index l.packet.steps.items) l.left
      ≡ speed_steps l.fn.place l.fn.packet;
  count : length l.steps.items ≡ l.step-index;
  near : unsigned_abs l.at ≤ 3 * farthest + l.step-index * reach;
}
