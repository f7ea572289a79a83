-- The packets of a group (SUBSET-026, 3.4 and 8.4; that infill isn't used is this project's profile).
use Rattle.std.specs.Prelude.{ℕ, List, [], ◌∷◌, ◌++◌, ◌==◌, if◌then◌else◌}
use Rattle.packets.specs.Packets.{number_of}
use Rattle.packets.specs.declared.packet.Packet.{Packet}
use Rattle.telegram.specs.declared.message.Telegram.{Telegram}

-- the number of the packet that announces infill: neither it nor what follows it is used
abbrev pub infill : ℕ
infill = 136

abbrev pub before_infill : List Packet → List Packet
before_infill [] = []
before_infill (packet ∷ packets) = if number_of packet == infill then [] else packet ∷ before_infill packets

-- the packets that are used of those of each telegram, one telegram after another
abbrev pub used_of : List (List Packet) → List Packet
used_of [] = []
used_of (packets ∷ others) = before_infill packets ++ used_of others

-- the packets of telegrams, one after another
abbrev pub reported_by : List Telegram → List Packet
reported_by [] = []
reported_by (telegram ∷ telegrams) = before_infill telegram.packets.items ++ reported_by telegrams
