use Rattle.std.proofs.Common.{◌≤◌, ◌++◌, length, take, drop}
use Rattle.speed_profile.specs.Targets.{AskTheSame, held}
use Rattle.speed_profile.proofs.nearest.gather_deciding.Given as goal

-- what isn't gone through yet, and what decides, ask what all that was held did
abbrev pub invariant-loop-step : goal.invariant-loop-step
invariant-loop-step l = record {
  space : l.step ≤ l.first;
  within : l.first ≤ length l.nearest;
  requested : AskTheSame (held (take l.step l.nearest) ++ held (drop l.first l.nearest)) (held l.fn.nearest);
}
