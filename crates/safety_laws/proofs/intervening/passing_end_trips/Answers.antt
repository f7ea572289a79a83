use Rattle.kernel.specs.Lives.{life_of}
use Rattle.safety_laws.proofs.Leaving.{trips_past_end}
use Rattle.safety_laws.proofs.intervening.passing_end_trips.Goals as goal

pub returns : goal.returns
returns c events input watched passed free = trips_past_end (life_of events) input watched passed free
