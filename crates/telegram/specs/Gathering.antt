-- The packets of several telegrams that were tested, in the bytes of the telegrams one after another (this project's
-- profile).
use Rattle.std.specs.Prelude.{◌≡◌, ◌≤◌, ℕ, List, [], ◌∷◌, length, take, drop}
use Rattle.bits.specs.Bits.{bits_of}
use Rattle.packets.specs.declared.packet.Packet.{Packet}
use Rattle.telegram.specs.declared.gathered.Extent.{Extent}
use Rattle.telegram.specs.Telegrams.{header_bits}
use Rattle.telegram.specs.Walks.{packets_in, HoldPackets}

-- the packets of each telegram, of which the extents say how many bytes and packets it has
abbrev pub packets_of_each : List Extent → List ℕ → List (List Packet)
packets_of_each [] bytes = []
packets_of_each (extent ∷ extents) bytes =
    packets_in extent.packets (drop header_bits (bits_of (take extent.bytes bytes))) ∷ packets_of_each extents (drop extent.bytes bytes)

-- The bytes are those of the telegrams, and in those of each its packets can be read.
abbrev pub AreGathered : List Extent → List ℕ → Type 0
AreGathered [] bytes = bytes ≡ []
AreGathered (extent ∷ extents) bytes =
    (extent.bytes ≤ length bytes) × HoldPackets extent.packets (take extent.bytes bytes) × AreGathered extents (drop extent.bytes bytes)
