use Rattle.std.proofs.Common.{ap, sym, ◌∙◌}
use Rattle.braking.specs.Approaches.{lowered_by}
use Rattle.braking.proofs.Approaching.{lowered_by_none}
use Rattle.speed_profile.specs.Targets.{Left}
use Rattle.speed_profile.proofs.speeds_ahead.lower_by_speeds.Goals as goal

pub returns : goal.returns
returns g c =
    let value = g.G.Profile.value in
    let now = c.loop-place.approach in
    sym (lowered_by_none value now)
    ∙ sym (ap (λ (left : Left). lowered_by (value now.gradient) left.targets now) (c.start.ensures.none c.in_default.is))
    ∙ c.loop-place.invariant
