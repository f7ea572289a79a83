use Rattle.std.proofs.Common.{ℕ, ◌<◌, ◌^◌, List, subst, ap, sym, ◌∙◌}
use Rattle.bits.specs.Layout.{Begins}
use Rattle.bits.specs.Writing.{named}
use Rattle.bits.specs.declared.name.VariableName.TheVariants as names
use Rattle.packets.specs.Packets.{packet, length_of, number_of, packet_taken}
use Rattle.packets.proofs.AnyPacket.{spelled-packet}
use Rattle.track_packets.specs.Kernel.{Shows, with_listed}
use Rattle.track_packets.specs.declared.reading.Field.{Field}
use Rattle.track_packets.proofs.kernel.kernel_fields_of.Goals as goal

pub returns-in-Ok-hand_packet : goal.returns-in-Ok-hand_packet
returns-in-Ok-hand_packet c =
    let p = c.in-Ok.packet in
    let w = spelled-packet p c.in-Ok.ensures.spelled.0 c.in-Ok.ensures.spelled.1 in
    let small : c.length-length.result < 2 ^ 13 = subst (λ (n : ℕ). n < 2 ^ 13) (sym c.length-length.ensures.value) w.small in (
      p,
      c.read_packet.new.reader,
      subst (λ bits. Begins packet p bits c.read_packet.new.reader) c.fork-bits.ensures c.in-Ok.ensures.found,
      ap (λ (s : Shows). (s.fields, 0))
          (c.in-Ok-hand_packet.ensures small
          ∙ ap (λ (n : ℕ). packet_taken with_listed n p (with_listed (record { fields = c.new-fields.result.items; at = 0 }) (named names.NidPacket 8 (number_of p)))) c.length-length.ensures.value
          ∙ ap (λ (items : List Field). packet_taken with_listed (length_of p) p (with_listed (record { fields = items; at = 0 }) (named names.NidPacket 8 (number_of p)))) c.new-fields.ensures.items),
    )
