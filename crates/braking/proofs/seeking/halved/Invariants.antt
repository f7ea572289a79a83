use Rattle.std.proofs.Common.{◌≡◌, ◌-◌, ◌<◌, ◌≤◌, ◌⊎◌}
use Rattle.braking.specs.Sums.{IsEnough}
use Rattle.braking.proofs.seeking.halved.Given as goal

-- a speed for which enough is taken off, or the first one; and one for which it isn't, or the last one
abbrev pub invariant-loop-middle : goal.invariant-loop-middle
invariant-loop-middle l = record {
  ordered : l.least ≤ l.end;
  above : l.fn.low ≤ l.least;
  below : l.end ≤ l.fn.high;
  enough : (l.least ≡ l.fn.low) ⊎ IsEnough l.front l.brakes l.target l.stretch l.least;
  next : l.end < l.fn.high → (l.least < l.end) × ¬ (IsEnough l.front l.brakes l.target l.stretch l.end);
}

abbrev pub decreases-loop-middle : goal.decreases-loop-middle
decreases-loop-middle l = l.end - l.least
