use Rattle.std.proofs.Common.{rules}
use Rattle.packets.proofs.encoding.hand_packet.Goals as goal

pub returns : goal.returns
returns g c = search rules
