-- Which telegrams have a spelling.
use Rattle.std.proofs.Common.{◌↔◌, Bool, List, [], ◌∷◌, ◌++◌, None, Ok, refl, sym, ap, arith}
use Rattle.std.specs.List.{AllByRecursion as Each}
use Rattle.std.proofs.lemmas.List.{append-nil}
use Rattle.bits.specs.Bits.{number_bits}
use Rattle.bits.specs.Fitting.{Spellable}
use Rattle.bits.specs.Layout.{Spells}
use Rattle.bits.proofs.Fitting.{spellable}
use Rattle.bits.proofs.Numbers.{length-number_bits, number-of_bits}
use Rattle.packets.specs.Packets.{packet}
use Rattle.packets.specs.declared.packet.Packet.{Packet}
use Rattle.telegram.specs.Telegrams.{header, next_packet, SpellsPackets, SpellsTelegram}
use Rattle.telegram.specs.declared.message.Telegram.{Telegram}
use Rattle.telegram.proofs.Lengths.{found-header, next_is_packet}
use Rattle.telegram.proofs.Written.{next_packet_spelled}

-- there are bits of the packet
abbrev HasBits : Packet → Type 0
HasBits p = (bits : List Bool) × Spells packet p bits

end_spelled : Spells next_packet None (number_bits 8 255)
unfolding next_packet
end_spelled = (255, number_bits 8 255, [], sym (append-nil (number_bits 8 255)), (length-number_bits 8 255, ap Ok (number-of_bits 8 255 (omega arith))), (refl, refl))

packets_spelled : (ps : List Packet) → Each HasBits ps → (bits : List Bool) × SpellsPackets ps bits
packets_spelled [] each = (number_bits 8 255, end_spelled)
packets_spelled (p ∷ ps) each =
    let more = packets_spelled ps each.1 in
    (each.0.0 ++ more.0, (each.0.0, more.0, refl, next_packet_spelled p each.0.0 each.0.1, more.1))

each_spelled : (ps : List Packet) (bits : List Bool) → SpellsPackets ps bits → Each HasBits ps
each_spelled [] bits s = tt
each_spelled (p ∷ ps) bits s = ((s.0, next_is_packet p s.0 s.3), each_spelled ps s.1 s.4)

pub telegram_spelled : (t : Telegram) → (Spellable header t.header × Each (λ p. (bits : List Bool) × Spells packet p bits) t.packets.items) ↔ ((bits : List Bool) × SpellsTelegram t bits)
telegram_spelled t = (
  λ h.
      let first = spellable header t.header h.0 in
      let others = packets_spelled t.packets.items h.1 in
      (first.0 ++ others.0, (first.0, others.0, refl, first.1, others.1)),
  λ s. (found-header.fits t.header s.1.0 s.1.3, each_spelled t.packets.items s.1.1 s.1.4),
)
