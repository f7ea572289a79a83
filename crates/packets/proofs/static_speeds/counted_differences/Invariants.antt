use Rattle.std.proofs.Common.{◌≡◌, ◌+◌, ◌*◌, ◌≤◌, drop}
use Rattle.packets.proofs.StaticSteps.{counted}
use Rattle.packets.proofs.static_speeds.counted_differences.Given as goal

abbrev pub invariant-loop-step : goal.invariant-loop-step
invariant-loop-step l = record {
  so_far : l.counted + counted (drop l.step-index l.steps) ≡ counted l.steps;
  small : l.counted ≤ 32 * l.step-index;
}
