-- The packets of a telegram in their order, each with what becomes of it (this project's profile). Places and lengths are
-- bits; places are counted from the first bit of the telegram.
use Rattle.std.specs.Prelude.{◌≡◌, ℕ, ◌+◌, ◌==◌, Bool, false, ◌||◌, List, [], ◌∷◌, Option}
use Rattle.balise_groups.specs.Description.{infill}
use Rattle.mode_table.specs.declared.mode.Mode.{Mode}
use Rattle.packets.specs.Packets.{length_of, number_of}
use Rattle.packets.specs.declared.packet.Packet.{Packet}
use Rattle.telegram.specs.Telegrams.{header_bits, Carries, RefusesBytes}
use Rattle.telegram.specs.declared.fault.TelegramFault.{TelegramFault}
use Rattle.telegram.specs.declared.message.Telegram.{Telegram}
use Rattle.track_packets.specs.Listing.{listing_of}
use Rattle.track_packets.specs.declared.listing.PacketPlace.{PacketPlace}
use Rattle.vars.specs.declared.linking.LinkOrientation.{LinkOrientation}
use Rattle.packet_uses.specs.Fates.{fate_reported}
use Rattle.packet_uses.specs.declared.fate.Fate.TheVariants.{Refused}
use Rattle.packet_uses.specs.declared.description.ReportedPacket.{ReportedPacket}

-- packets one after another, the first of them at a place
abbrev pub reported_from : Mode → Option LinkOrientation → Bool → ℕ → List Packet → List ReportedPacket
reported_from mode direction after_infill start [] = []
reported_from mode direction after_infill start (p ∷ ps) =
    record { number = number_of p; start = start; length = length_of p; fate = fate_reported mode direction after_infill p }
    ∷ reported_from mode direction (after_infill || (number_of p == infill)) (start + length_of p) ps

-- the packets of a telegram that is refused
abbrev pub refused_of : List PacketPlace → List ReportedPacket
refused_of [] = []
refused_of (p ∷ ps) = record { number = p.number; start = p.start; length = p.length; fate = Refused } ∷ refused_of ps

-- What is reported of the packets that bytes carry, or that are listed by L_PACKET where they carry no telegram.
pub record DescribesPackets (bytes : List ℕ) (mode : Mode) (direction : Option LinkOrientation) (reported : List ReportedPacket) : Type 0 where
  pub carried : (t : Telegram) → Carries bytes t → reported ≡ reported_from mode direction false header_bits t.packets.items
  pub refused : (e : TelegramFault) → RefusesBytes e bytes → reported ≡ refused_of (listing_of bytes).packets.items
