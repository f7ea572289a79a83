use Rattle.std.proofs.Common.{◌≡◌, ◌≤◌, ℤ, ◌-ℤ◌, ◌≤ℤ◌, ◌<ℤ◌}
use Rattle.units.specs.Stretches.{natural}
use Rattle.brakes.specs.Brakes.{slowing_on}
use Rattle.braking.specs.Braking.{braked}
use Rattle.braking.proofs.summed.Summed.gone_on.Given as goal

abbrev pub invariant-loop-deceleration : goal.invariant-loop-deceleration
invariant-loop-deceleration g l = record {
  ordered : l.fn.self.from ≤ℤ l.place;
  within : l.place ≤ℤ l.to;
  sum : l.taken_off ≡ braked (g.P.Profile.value l.gradient) l.deceleration l.fn.self.from (natural (l.place -ℤ l.fn.self.from));
  small : (there : ℤ) → l.fn.self.from ≤ℤ there → there <ℤ l.place → slowing_on l.deceleration (g.P.Profile.value l.gradient there) ≤ 549;
}

abbrev pub decreases-loop-deceleration : goal.decreases-loop-deceleration
decreases-loop-deceleration g l = natural (l.to -ℤ l.place)
