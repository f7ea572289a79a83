use Rattle.std.proofs.Common.{refl}
use Rattle.braking.proofs.Slower.{summed_fits}
use Rattle.braking.proofs.speeds.fits_summed.Goals as goal

pub returns-in-Some-clause-fits : goal.returns-in-Some-clause-fits
returns-in-Some-clause-fits g c =
    summed_fits c.args.front (g.P.Profile.value c.args.gradient.now) c.args.brakes.now c.args.target.now c.args.speed c.lacking.result c.in-Some.sum
    c.requires.faster (c.in-Some.ensures.late.0 refl) c.lacking.ensures c.in-Some.ensures.sum.summed c.in-Some.ensures.sum.from
    c.in-Some.ensures.sum.to c.in-Some.ensures.sum.reached
