use Rattle.std.proofs.Common.{◌-◌, take, drop, arith, ap, ◌∙◌}
use Rattle.track_packets.proofs.Bounded.{rest_is}
use Rattle.track_packets.proofs.packet_bits.PacketBits.take.Goals as goal

pub returns-clause-rest : goal.returns-clause-rest
returns-clause-rest c =
    ap (take (c.self.inside.left - c.args.n)) c.in_ok-number.ensures.rest
    ∙ rest_is c.args.n c.self.inside.left c.self.inside.reader (omega (arith, c.if-self-n.false))
    ∙ ap (drop c.args.n) c.self.view_is
