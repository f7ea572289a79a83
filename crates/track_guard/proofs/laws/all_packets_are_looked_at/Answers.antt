use Rattle.track_guard.proofs.Looking.{all_are_looked_at}
use Rattle.track_guard.proofs.laws.all_packets_are_looked_at.Goals as goal

pub returns : goal.returns
returns c = all_are_looked_at
