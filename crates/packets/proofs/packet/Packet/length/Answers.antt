use Rattle.std.proofs.Common.{sym, ◌∙◌}
use Rattle.packets.proofs.AnyPacket.{spelled-packet}
use Rattle.packets.proofs.packet.Packet.length.Goals as goal

pub returns-clause-spelled : goal.returns-clause-spelled
returns-clause-spelled c = λ bits s. (spelled-packet c.args.self.now bits s).length_is ∙ sym c.bits.ensures.value
