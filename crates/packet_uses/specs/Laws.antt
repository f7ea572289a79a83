-- What is reported as used is what the kernel uses (this project's profile): `is_used` and `before_infill` are the definitions
-- by which it uses packets.
use Rattle.std.specs.Prelude.{◌≡◌, ℕ, false, List, [], ◌∷◌, length, filter, Option, if◌then◌else◌}
use Rattle.balise_groups.specs.Description.{before_infill}
use Rattle.mode_table.specs.declared.mode.Mode.{Mode}
use Rattle.packets.specs.declared.packet.Packet.{Packet}
use Rattle.telegram.specs.Telegrams.{header_bits}
use Rattle.track_picture.specs.Sentences.{is_used}
use Rattle.vars.specs.declared.linking.LinkOrientation.{LinkOrientation}
use Rattle.packet_uses.specs.Calls.{is_unused}
use Rattle.packet_uses.specs.Never.{never_used_among, never_used_of}
use Rattle.packet_uses.specs.Description.{reported_from}
use Rattle.packet_uses.specs.declared.description.ReportedPacket.{ReportedPacket}

-- a packet before others, but where it isn't used
abbrev pub if_used : ReportedPacket → Packet → List Packet → List Packet
if_used reported p ps = if is_unused reported then ps else p ∷ ps

-- the packets that are reported as used
abbrev pub used_among : List Packet → List ReportedPacket → List Packet
used_among [] reported = []
used_among (p ∷ ps) [] = []
used_among (p ∷ ps) (reported ∷ more) = if_used reported p (used_among ps more)

-- Each packet is reported once, and those that are reported as used are those that are used.
abbrev pub ReportedAsUsedIsUsed : Type 0
ReportedAsUsedIsUsed =
    (mode : Mode) (direction : Option LinkOrientation) (start : ℕ) (packets : List Packet)
    → (length (reported_from mode direction false start packets) ≡ length packets)
    × (used_among packets (reported_from mode direction false start packets) ≡ filter (is_used mode direction) (before_infill packets))

-- The same packets are reported as never used, whatever the mode and the direction.
abbrev pub NeverUsedIsSo : Type 0
NeverUsedIsSo =
    (mode : Mode) (direction : Option LinkOrientation) (packets : List Packet)
    → never_used_among (reported_from mode direction false header_bits packets) ≡ never_used_of packets
