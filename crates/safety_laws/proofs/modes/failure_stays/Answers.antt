use Rattle.kernel.specs.Lives.{life_of}
use Rattle.safety_laws.proofs.Leaving.{stays_failed}
use Rattle.safety_laws.proofs.modes.failure_stays.Goals as goal

pub returns : goal.returns
returns c events input is = stays_failed (life_of events) input is
