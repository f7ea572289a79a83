use Rattle.kernel.specs.Lives.{life_of}
use Rattle.safety_laws.proofs.Leaving.{leaves_trip}
use Rattle.safety_laws.proofs.modes.trip_is_left.Goals as goal

pub returns : goal.returns
returns c events input is = leaves_trip (life_of events) input is
