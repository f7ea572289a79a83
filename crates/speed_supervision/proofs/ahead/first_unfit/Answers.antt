use Rattle.std.proofs.Common.{◌≡◌, ◌≤◌, ℕ, true, false, ◌∙◌, arith}
use Rattle.std.specs.Prelude.{Option, None, Some, IfSome}
use Rattle.speed_profile.specs.Ahead.{over_ahead, static_targets, restriction_targets, area_targets}
use Rattle.speed_supervision.specs.declared.cause.TargetAhead.{TargetAhead}
use Rattle.speed_supervision.specs.Targets.{Journey, journey_by, along_track, fits_on, fits_all_on, IsTarget, IsUnfit}
use Rattle.speed_supervision.specs.Supervised.{order_of}
use Rattle.speed_supervision.proofs.Finding.{or_else}
use Rattle.speed_supervision.proofs.Hindering.{fit_kinds}
use Rattle.speed_supervision.proofs.Preceding.{past_static, past_restrictions}
use Rattle.speed_supervision.proofs.ahead.first_unfit.Goals as goal

pub returns-clause-found : goal.returns-clause-found
returns-clause-found g c =
    let journey = journey_by g.S.Profile.value g.G.Profile.value c.args.ahead.now in
    let speed = c.args.speed in
    let first = c.new-approach.ensures in
    let second = c.unfit_static_speed.ensures.same ∙ first in
    let third = c.unfit_restriction.ensures.same ∙ second in
    let static = rw first at c.in_default.ensures.found in
    let restrictions = rw second at c.in_default-unfit_restriction.ensures.found in
    or_else c.unfit_area.result
    (fits_all_on journey (over_ahead journey.front (area_targets journey.track.national journey.track.areas)) speed ≡ true)
    (fits_all_on journey (along_track journey) speed ≡ true)
    (IsUnfit journey speed)
    (λ areas. fit_kinds journey speed static restrictions areas)
    (rw third at c.unfit_area.ensures.found)

pub returns-in-Some-clause-first : goal.returns-in-Some-clause-first
returns-in-Some-clause-first g c other is unfit = omega (arith, c.in-Some.ensures.kind)

pub returns-in-Some-unfit_restriction-clause-first : goal.returns-in-Some-unfit_restriction-clause-first
returns-in-Some-unfit_restriction-clause-first g c other is unfit =
    let journey = journey_by g.S.Profile.value g.G.Profile.value c.args.ahead.now in
    let static = rw c.new-approach.ensures at c.in_default.ensures.found in
    omega (arith, c.in-Some-unfit_restriction.ensures.kind, past_static journey c.args.speed other.target unfit static other.kind is)

-- where an area is found, none of the others is unfit
area_first : (journey : Journey) (speed : ℕ) (found : Option TargetAhead) → IfSome found (λ f. order_of f.kind ≡ 2) →
    fits_all_on journey (over_ahead journey.front (static_targets journey.bounds journey.track.static)) speed ≡ true →
    fits_all_on journey (over_ahead journey.front (restriction_targets journey.track.restrictions.mark journey.track.restrictions.restrictions)) speed ≡ true →
    IfSome found (λ f. (other : TargetAhead) → IsTarget journey other → fits_on journey other.target speed ≡ false → order_of f.kind ≤ order_of other.kind)
area_first journey speed None kind static restrictions = tt
area_first journey speed (Some found) kind static restrictions =
    λ other is unfit. omega (arith, kind, past_restrictions journey speed other.target unfit static restrictions other.kind is)

pub returns-clause-first : goal.returns-clause-first
returns-clause-first g c =
    let journey = journey_by g.S.Profile.value g.G.Profile.value c.args.ahead.now in
    let first = c.new-approach.ensures in
    let second = c.unfit_static_speed.ensures.same ∙ first in
    let static = rw first at c.in_default.ensures.found in
    let restrictions = rw second at c.in_default-unfit_restriction.ensures.found in
    area_first journey c.args.speed c.unfit_area.result c.unfit_area.ensures.kind static restrictions
