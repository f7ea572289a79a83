use Rattle.std.proofs.Common.{◌≡◌, true, drop}
use Rattle.speed_supervision.specs.Targets.{journey_by, fits_all_on}
use Rattle.speed_supervision.proofs.Hindering.{restricted}
use Rattle.speed_supervision.proofs.ahead.unfit_restriction.Given as goal

-- a speed that fits those that are left fits all
abbrev pub invariant-loop-restriction : goal.invariant-loop-restriction
invariant-loop-restriction g l =
    let journey = journey_by g.S.Profile.value g.G.Profile.value l.ahead in
    (fits_all_on journey (restricted journey l.fn.approach.speed (drop l.restriction-index l.restrictions)) l.fn.approach.speed ≡ true →
    fits_all_on journey (restricted journey l.fn.approach.speed l.restrictions) l.fn.approach.speed ≡ true)
    × (l.approach ≡ l.fn.approach)
