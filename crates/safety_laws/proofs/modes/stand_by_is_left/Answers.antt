use Rattle.kernel.specs.Lives.{life_of}
use Rattle.safety_laws.proofs.Leaving.{leaves_stand_by}
use Rattle.safety_laws.proofs.modes.stand_by_is_left.Goals as goal

pub returns : goal.returns
returns c events input is = leaves_stand_by (life_of events) input is
