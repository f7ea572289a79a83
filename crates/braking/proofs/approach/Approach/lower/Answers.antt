use Rattle.braking.proofs.Approaching.{lowered_by_fitting}
use Rattle.braking.proofs.approach.Approach.lower.Goals as goal

pub returns-else-not-surely_fits : goal.returns-else-not-surely_fits
returns-else-not-surely_fits g c =
    lowered_by_fitting g.P.Profile.value c.args.self.now c.args.target.now (c.surely_fits.ensures.fits c.if-not-surely_fits.false)
