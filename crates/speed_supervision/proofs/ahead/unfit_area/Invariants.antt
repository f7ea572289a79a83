use Rattle.std.proofs.Common.{◌≡◌, true, drop}
use Rattle.speed_supervision.specs.Targets.{journey_by, fits_all_on}
use Rattle.speed_supervision.proofs.Hindering.{inside}
use Rattle.speed_supervision.proofs.ahead.unfit_area.Given as goal

-- a speed that fits those that are left fits all
abbrev pub invariant-loop-area : goal.invariant-loop-area
invariant-loop-area g l =
    let journey = journey_by g.S.Profile.value g.G.Profile.value l.ahead in
    (fits_all_on journey (inside journey l.fn.approach.speed (drop l.area-index l.areas)) l.fn.approach.speed ≡ true →
    fits_all_on journey (inside journey l.fn.approach.speed l.areas) l.fn.approach.speed ≡ true)
    × (l.approach ≡ l.fn.approach)
