use Rattle.std.proofs.Common.{◌≡◌, ◌<ℤ◌, true}
use Rattle.std.specs.Prelude.{IfSome}
use Rattle.speed_profile.specs.Ahead.{over_ahead, static_targets}
use Rattle.speed_profile.specs.Starts.{left}
use Rattle.speed_supervision.specs.Targets.{journey_by, fits_all_on}
use Rattle.speed_supervision.proofs.Hindering.{static_from}
use Rattle.speed_supervision.proofs.ahead.unfit_static_speed.Given as goal

-- a speed that fits those that are left fits all, and they lie ahead
abbrev pub invariant-loop-start : goal.invariant-loop-start
invariant-loop-start g l =
    let journey = journey_by g.S.Profile.value g.G.Profile.value l.ahead in
    (fits_all_on journey (static_from journey l.fn.approach.speed l.start) l.fn.approach.speed ≡ true →
    fits_all_on journey (over_ahead journey.front (static_targets journey.bounds journey.track.static)) l.fn.approach.speed ≡ true)
    × IfSome l.start (λ place. journey.front <ℤ place)
    × (l.approach ≡ l.fn.approach)

-- how many centimetres are left
abbrev pub decreases-loop-start : goal.decreases-loop-start
decreases-loop-start g l = left l.start
