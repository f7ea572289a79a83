use Rattle.safety_laws.proofs.Lessening.{fits_farther}
use Rattle.safety_laws.proofs.restricting.nearer_fits_no_more.Goals as goal

pub returns : goal.returns
returns c gradient brakes target speed far near beyond fit = fits_farther gradient brakes target speed far near beyond fit
