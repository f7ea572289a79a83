use Rattle.std.proofs.Common.{◌≡◌, ℕ, ◌<◌, ◌^◌, ◌++◌, subst, ap, sym, ◌∙◌}
use Rattle.bits.specs.Bits.{number_bits}
use Rattle.bits.specs.Writing.{with_bits}
use Rattle.packets.specs.Packets.{length_of, number_of, packet_taken}
use Rattle.packets.proofs.AnyPacket.{spelled-packet}
use Rattle.packets.proofs.encoding.write_packet.Goals as goal

pub returns-clause-ok : goal.returns-clause-ok
returns-clause-ok g c = λ bits s.
    let w = spelled-packet c.args.packet.now bits s in
    let small : c.length-length.result < 2 ^ 13 = subst (λ (n : ℕ). n < 2 ^ 13) (sym c.length-length.ensures.value) w.small in
    c.in-Ok.ensures small
    ∙ ap (λ (n : ℕ). packet_taken with_bits n c.args.packet.now (c.args.writer.now ++ number_bits 8 (number_of c.args.packet.now))) c.length-length.ensures.value
    ∙ sym (w.written c.args.writer.now)
