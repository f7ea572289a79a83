-- The packets of a telegram that no mode uses in any direction (this project's profile): those that the kernel doesn't
-- know, a packet 136 and what follows it, and each packet of a telegram that is refused.
use Rattle.std.specs.Prelude.{◌≡◌, ℕ, Bool, true, false, List, [], ◌∷◌, None, if◌then◌else◌}
use Rattle.mode_table.specs.declared.mode.Mode.TheVariants.{FullSupervision}
use Rattle.packets.specs.declared.packet.Packet.{Packet}
use Rattle.telegram.specs.Telegrams.{header_bits, Carries, RefusesBytes}
use Rattle.telegram.specs.declared.fault.TelegramFault.{TelegramFault}
use Rattle.telegram.specs.declared.message.Telegram.{Telegram}
use Rattle.track_packets.specs.Listing.{listing_of}
use Rattle.packet_uses.specs.Description.{refused_of, reported_from}
use Rattle.packet_uses.specs.declared.fate.Fate.{Fate}
use Rattle.packet_uses.specs.declared.fate.Fate.TheVariants as fates
use Rattle.packet_uses.specs.declared.description.ReportedPacket.{ReportedPacket}

-- whether a packet of which this becomes is used in no mode and no direction
abbrev pub is_never_used : Fate → Bool
is_never_used fates.Used = false
is_never_used fates.NotKnown = true
is_never_used fates.Infill = true
is_never_used fates.NotInMode = false
is_never_used fates.OtherDirection = false
is_never_used fates.Refused = true

-- such packets among those that are reported
abbrev pub never_used_among : List ReportedPacket → List ReportedPacket
never_used_among [] = []
never_used_among (p ∷ ps) = if is_never_used p.fate then p ∷ never_used_among ps else never_used_among ps

-- such packets of a telegram. The mode and the direction here are any: a law says so
abbrev pub never_used_of : List Packet → List ReportedPacket
never_used_of packets = never_used_among (reported_from FullSupervision None false header_bits packets)

-- .. of bytes that carry no telegram: all that are listed by L_PACKET
abbrev pub refused_in : List ℕ → List ReportedPacket
refused_in bytes = refused_of (listing_of bytes).packets.items

-- What is reported of the packets of bytes that are never used: those of the telegram that they carry, or all that are
-- listed where they carry none.
pub record DescribesNeverUsed (bytes : List ℕ) (reported : List ReportedPacket) : Type 0 where
  pub carried : (t : Telegram) → Carries bytes t → reported ≡ never_used_of t.packets.items
  pub refused : (e : TelegramFault) → RefusesBytes e bytes → reported ≡ refused_in bytes
