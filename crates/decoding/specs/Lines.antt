-- The lines of a telegram (this project's profile): its variables by their names (SUBSET-026, 7.5.1), each with its
-- number as it was sent.
use Rattle.std.specs.Prelude.{ℕ, ◌+◌, List, [], ◌++◌, drop, flat_map, codes, decimal}
use Rattle.bits.specs.Names.{name_text}
use Rattle.packets.specs.Packets.{number_of}
use Rattle.packets.specs.declared.packet.Packet.{Packet}
use Rattle.packets.specs.declared.packet.Packet.TheVariants as packets
use Rattle.telegram.specs.Sequences.{length_of_all}
use Rattle.telegram.specs.Telegrams.{header_bits}
use Rattle.telegram.specs.declared.fault.TelegramFault.{TelegramFault}
use Rattle.telegram.specs.declared.header.Header.{Header}
use Rattle.telegram.specs.declared.message.Telegram.{Telegram}
use Rattle.decoding.specs.Fields.{header_fields, packet_fields}
use Rattle.telegram.specs.Faults.{number_of_fault, name_of_fault}
use Rattle.decoding.specs.declared.fields.FieldValue.{FieldValue}

-- a field: the name of its variable, and its number
abbrev pub field_text : FieldValue → List ℕ
field_text f = codes " " ++ name_text f.name ++ codes "=" ++ decimal f.number

-- the line of a header: each of its fields
abbrev pub header_line : Header → List ℕ
header_line h = codes "telegram" ++ flat_map field_text (header_fields h) ++ codes "\n"

-- a text in place of the body of a packet that is skipped
abbrev pub body_text : Packet → List ℕ
body_text (packets.Other p) = codes " skipped"
body_text _ = []

-- the line of a packet: its number, each field after it, and its body where it is skipped
abbrev pub packet_line : Packet → List ℕ
packet_line p = codes "packet " ++ decimal (number_of p) ++ flat_map field_text (drop 1 (packet_fields p)) ++ body_text p ++ codes "\n"

-- the last line: the number of bits up to and with the end mark
abbrev pub end_line : Telegram → List ℕ
end_line t = codes "end " ++ decimal (header_bits + 8 + length_of_all t.packets.items) ++ codes "\n"

-- the lines of a telegram: its header, each packet in order, and its end
abbrev pub telegram_lines : Telegram → List ℕ
telegram_lines t = header_line t.header ++ flat_map packet_line t.packets.items ++ end_line t

-- the line of a fault: its number and its name
abbrev pub refusal_line : TelegramFault → List ℕ
refusal_line fault = codes "refused " ++ decimal (number_of_fault fault) ++ codes " " ++ name_of_fault fault ++ codes "\n"
