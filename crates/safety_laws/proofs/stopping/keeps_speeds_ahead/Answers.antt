use Rattle.safety_laws.proofs.Meeting.{keeps}
use Rattle.safety_laws.proofs.stopping.keeps_speeds_ahead.Goals as goal

pub returns : goal.returns
returns c life train end square supervised braking place after before = keeps life train end supervised square braking place after before
