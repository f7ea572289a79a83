-- The fields of a header and of a packet as a list: each with the name of its variable (SUBSET-026, 7.5.1), the number
-- of its bits, and the number that they spell.
use Rattle.std.specs.Prelude.{◌==◌, List, [], ◌∷◌, ◌++◌, if◌then◌else◌}
use Rattle.bits.specs.Writing.{ListedField, named, raw, taken}
use Rattle.bits.specs.declared.name.VariableName.TheVariants as names
use Rattle.packets.specs.Packets.{length_of, number_of, packet_taken}
use Rattle.packets.specs.declared.packet.Packet.{Packet}
use Rattle.telegram.specs.Telegrams.{header}
use Rattle.telegram.specs.declared.header.Header.{Header}
use Rattle.decoding.specs.declared.fields.FieldValue.{FieldValue}

-- Fields with one more after them. Bits that are skipped are no field, nor is what has no bits.
abbrev pub with_field : List FieldValue → ListedField → List FieldValue
with_field fields (named name width number) = if width == 0 then fields else fields ++ record { name = name; width = width; number = number } ∷ []
with_field fields (raw bits) = fields

-- the fields of a header
abbrev pub header_fields : Header → List FieldValue
header_fields h = taken with_field header h []

-- the fields of a packet, NID_PACKET first
abbrev pub packet_fields : Packet → List FieldValue
packet_fields p = packet_taken with_field (length_of p) p (with_field [] (named names.NidPacket 8 (number_of p)))
