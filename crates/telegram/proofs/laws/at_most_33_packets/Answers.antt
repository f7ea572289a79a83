use Rattle.telegram.proofs.Walking.{few_packets}
use Rattle.telegram.proofs.laws.at_most_33_packets.Goals as goal

pub returns : goal.returns
returns c = few_packets
