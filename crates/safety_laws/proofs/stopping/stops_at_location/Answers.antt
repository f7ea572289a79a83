use Rattle.safety_laws.proofs.Meeting.{stops}
use Rattle.safety_laws.proofs.stopping.stops_at_location.Goals as goal

pub returns : goal.returns
returns c life train end supervised none = stops life train end supervised none
