use Rattle.braking.proofs.Slower.{slower_true}
use Rattle.braking.proofs.speeds.fits.Goals as goal

pub returns-clause-slower : goal.returns-clause-slower
returns-clause-slower g c =
    slower_true c.args.front (g.P.Profile.value c.args.gradient.now) c.args.brakes.now c.args.target.now c.args.speed _ c.fits_summed-fits.ensures.fits
