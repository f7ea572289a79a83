-- The packets of a telegram as they come, one after another (this project's profile).
use Rattle.std.specs.Prelude.{ℕ, ◌+◌, Bool, List, [], ◌∷◌, Some, None}
use Rattle.bits.specs.Layout.{Begins}
use Rattle.packets.specs.Packets.{length_of}
use Rattle.packets.specs.declared.packet.Packet.{Packet}
use Rattle.telegram.specs.Telegrams.{next_packet}

-- The bits begin with these packets and the end mark, and the rest follows it.
abbrev pub BeginsPackets : List Packet → List Bool → List Bool → Type 0
BeginsPackets [] bits rest = Begins next_packet None bits rest
BeginsPackets (p ∷ ps) bits rest = (mid : List Bool) × Begins next_packet (Some p) bits mid × BeginsPackets ps mid rest

-- the bits of packets
abbrev pub length_of_all : List Packet → ℕ
length_of_all [] = 0
length_of_all (p ∷ ps) = length_of p + length_of_all ps
