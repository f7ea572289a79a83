use Rattle.kernel.proofs.Tripped.{trips_reported}
use Rattle.kernel.proofs.laws.trips_have_causes.Goals as goal

pub returns : goal.returns
returns c = trips_reported
