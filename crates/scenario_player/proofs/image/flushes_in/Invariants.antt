use Rattle.std.proofs.Common.{◌≡◌, ◌≤◌, take}
use Rattle.scenario_player.specs.Calls.{flushes_in}
use Rattle.scenario_player.proofs.image.flushes_in.Given as goal

abbrev pub invariant-loop-step : goal.invariant-loop-step
invariant-loop-step l = record {
  count : l.flushes ≡ flushes_in (take l.step-index l.steps);
  few : l.flushes ≤ l.step-index;
}
