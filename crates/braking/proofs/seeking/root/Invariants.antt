use Rattle.std.proofs.Common.{◌+◌, ◌*◌, ◌<◌, ◌≤◌}
use Rattle.braking.proofs.seeking.root.Given as goal

-- no less than the whole root, where it isn't the limit
abbrev pub invariant-loop-root : goal.invariant-loop-root
invariant-loop-root l = record {
  within : l.root ≤ l.fn.limit;
  next : l.root < l.fn.limit → l.square < (l.root + 1) * (l.root + 1);
}

abbrev pub decreases-loop-root : goal.decreases-loop-root
decreases-loop-root l = l.root
