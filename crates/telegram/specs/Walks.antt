-- The packets of a telegram, one after another, where they lie in its bytes (SUBSET-026, 8.4.2).
use Rattle.std.specs.Prelude.{◌≡◌, ◌<◌, ◌≤◌, ◌*◌, ℕ, zero, suc, ◌+◌, ◌/◌, ◌%◌, Bool, List, [], ◌∷◌, map, length, drop, Option, Some, None, Result, Ok, Err}
use Rattle.std.specs.List.{slice_range}
use Rattle.bits.specs.Bits.{bits_of}
use Rattle.bits.specs.Layout.{Begins, read}
use Rattle.packets.specs.Limits.{telegram_bytes}
use Rattle.packets.specs.Packets.{packet, length_of}
use Rattle.packets.specs.declared.packet.Packet.{Packet}
use Rattle.telegram.specs.declared.fault.TelegramFault.{TelegramFault}
use Rattle.telegram.specs.declared.header.Header.{Header}
use Rattle.telegram.specs.declared.message.Telegram.{Telegram}
use Rattle.telegram.specs.Telegrams.{header_bits, next_packet, Carries}

-- A packet, the fewest bytes that hold its bits, and the place of its first bit in the first of these bytes, from 0 to
-- 7.
pub record Located : Type 0 where
  pub packet : Packet
  pub bytes : List ℕ
  pub offset : ℕ

-- The header of a telegram, and those of its packets that are still to come.
pub record Walk : Type 0 where
  pub header : Header
  pub items : List Located

-- Packets one after another where they lie in the bytes, the first of them after so many bits.
abbrev pub located_from : List ℕ → ℕ → List Packet → List Located
located_from bytes start [] = []
located_from bytes start (p ∷ ps) =
    record { packet = p; bytes = slice_range bytes (start / 8) ((start + length_of p + 7) / 8); offset = start % 8 } ∷ located_from bytes (start + length_of p) ps

-- The walk from the first packet of the telegram that the bytes carry, which comes after its header.
abbrev pub IsWalkOf : List ℕ → Walk → Type 0
IsWalkOf bytes w = (t : Telegram) × Carries bytes t × (w ≡ record { header = t.header; items = located_from bytes header_bits t.packets.items })

-- what a walk has still to come, without the places
abbrev pub packets_of : List Located → List Packet
packets_of items = map (λ item. item.packet) items

-- The packet is spelled in the bits of its bytes, after as many of them as its offset says; the first and the last of
-- the bytes hold bits of it.
pub record StandsInPlace (item : Located) : Type 0 where
  pub rest : List Bool
  pub stands : Begins packet item.packet (drop item.offset (bits_of item.bytes)) rest
  pub starts_in_first : item.offset < 8
  pub ends_in_last : length rest < 8

-- the packet that was read, if one was, and those of the bits after it
abbrev pub before_those_of : Result (Option Packet × List Bool) TelegramFault → (List Bool → List Packet) → List Packet
before_those_of (Ok (Some p, rest)) more = p ∷ more rest
before_those_of (Ok (None, rest)) more = []
before_those_of (Err e) more = []

-- the packets that the bits begin with, so many at most
unfoldable pub packets_in : ℕ → List Bool → List Packet
packets_in zero bits = []
packets_in (suc n) bits = before_those_of (read next_packet bits) (packets_in n)

-- the telegram with this header and so many packets, which are spelled in these bytes after the header
abbrev pub received : Header → ℕ → List ℕ → Telegram
received h count bytes = record { header = h; packets = record { items = packets_in count (drop header_bits (bits_of bytes)) } }

-- After a header so many packets can be read in the bytes, and no telegram has more than 33.
pub record HoldPackets (count : ℕ) (bytes : List ℕ) : Type 0 where
  pub small : length bytes ≤ telegram_bytes
  pub header_first : header_bits ≤ 8 * length bytes
  pub few : count ≤ 33
  pub counted : length (packets_in count (drop header_bits (bits_of bytes))) ≡ count
