-- The fields of a packet that the kernel uses, by its layout in `packets` (SUBSET-026, 7.4.2), NID_PACKET first. Places
-- and widths are bits.
use Rattle.std.specs.Prelude.{ℕ, ◌+◌, List, [], ◌∷◌, ◌++◌, length}
use Rattle.bits.specs.Writing.{ListedField, named, raw}
use Rattle.bits.specs.declared.name.VariableName.TheVariants as names
use Rattle.packets.specs.Packets.{length_of, number_of, packet_taken}
use Rattle.packets.specs.declared.packet.Packet.{Packet}
use Rattle.track_packets.specs.declared.reading.Field.{Field}
use Rattle.track_packets.specs.declared.variable.Variable.TheVariants.{Shared}

-- fields so far, and how many bits they have
pub record Shows : Type 0 where
  pub fields : List Field
  pub at : ℕ

-- with one more; bits that are skipped have no field
abbrev pub with_listed : Shows → ListedField → Shows
with_listed s (named name width v) = record { fields = s.fields ++ record { variable = Shared name; start = s.at; width = width; number = v } ∷ []; at = s.at + width }
with_listed s (raw bits) = record s { at = s.at + length bits }

-- The fields of a packet.
abbrev pub kernel_fields : Packet → List Field
kernel_fields p = (packet_taken with_listed (length_of p) p (with_listed (record { fields = []; at = 0 }) (named names.NidPacket 8 (number_of p)))).fields
