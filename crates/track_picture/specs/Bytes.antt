-- The telegram that bytes carry, as a function of the bytes (SUBSET-026, 8.4.2).
use Rattle.std.specs.Prelude.{ℕ, zero, suc, Bool, List, [], ◌∷◌, length, Option, Some, None, Result, Ok, Err, nat_le, if◌then◌else◌}
use Rattle.std.specs.Option.{option_map}
use Rattle.bits.specs.Bits.{bits_of}
use Rattle.bits.specs.Layout.{read}
use Rattle.packets.specs.Limits.{telegram_bytes}
use Rattle.packets.specs.declared.packet.Packet.{Packet}
use Rattle.telegram.specs.declared.fault.TelegramFault.{TelegramFault}
use Rattle.telegram.specs.declared.header.Header.{Header}
use Rattle.telegram.specs.declared.message.Telegram.{Telegram}
use Rattle.telegram.specs.Telegrams.{header, next_packet}

-- the packet that was read, and those after it; none where the end mark was read, and no list at a fault
abbrev pub those_from : Result (Option Packet × List Bool) TelegramFault → (List Bool → Option (List Packet)) → Option (List Packet)
those_from (Ok (Some p, rest)) more = option_map (λ ps. p ∷ ps) (more rest)
those_from (Ok (None, rest)) more = Some []
those_from (Err e) more = None

-- the packets before the end mark, where there are fewer than so many
unfoldable pub packets_before_end : ℕ → List Bool → Option (List Packet)
packets_before_end zero bits = None
packets_before_end (suc n) bits = those_from (read next_packet bits) (packets_before_end n)

abbrev pub with_header : Result (Header × List Bool) TelegramFault → Option Telegram
with_header (Ok (h, rest)) = option_map (λ ps. record { header = h; packets = record { items = ps } }) (packets_before_end (length rest) rest)
with_header (Err e) = None

-- the telegram that the bytes carry, if they carry one; a telegram has fewer packets than bits
unfoldable pub telegram_in : List ℕ → Option Telegram
telegram_in bytes = if nat_le (length bytes) telegram_bytes then with_header (read header (bits_of bytes)) else None
