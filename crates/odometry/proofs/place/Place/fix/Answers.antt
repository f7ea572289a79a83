use Rattle.std.proofs.Common.{rules}
use Rattle.odometry.proofs.place.Place.fix.Goals as goal

pub returns-clause-stands : goal.returns-clause-stands
returns-clause-stands c = search rules
