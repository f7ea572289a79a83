use Rattle.authority.proofs.RunningOut.{starts}
use Rattle.authority.proofs.laws.timers_start.Goals as goal

pub returns : goal.returns
returns c = starts
