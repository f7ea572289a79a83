use Rattle.std.proofs.Common.{◌≡◌, ℕ, ◌+◌, ◌*◌, ◌≤◌, ◌⊎◌, pos, ◌+ℤ◌, ◌-ℤ◌, ◌≤ℤ◌}
use Rattle.units.specs.Stretches.{natural}
use Rattle.brakes.specs.Brakes.{reaction_way}
use Rattle.braking.specs.Sums.{IsStretch}
use Rattle.braking.proofs.seeking.sought.Given as goal

-- what is summed ends at the target, and at each speed above the target's that it takes off the brakes act before it
abbrev pub invariant-loop-start : goal.invariant-loop-start
invariant-loop-start g l = record {
  to : l.last.sum.to ≡ l.target.place;
  stretch : IsStretch (g.P.Profile.value l.gradient) l.brakes.deceleration l.last;
  within : l.start ≤ℤ l.last.initial.from;
  more : l.sum.taken_off ≤ l.last.sum.taken_off;
  acts : (v : ℕ) → v ≤ l.limit → v * v ≤ l.target.speed * l.target.speed + l.last.sum.taken_off
      → (v ≤ l.target.speed) ⊎ ((l.front +ℤ pos (reaction_way l.brakes.reaction v)) ≤ℤ l.last.sum.from);
}

-- how far from the front on it isn't gone back yet
abbrev pub decreases-loop-start : goal.decreases-loop-start
decreases-loop-start g l = natural (l.last.initial.from -ℤ l.front)
