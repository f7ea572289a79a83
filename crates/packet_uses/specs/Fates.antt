-- What becomes of a packet of a telegram whose group is accepted (SUBSET-026, 3.4 and 4.8; that infill isn't used is this
-- project's profile). The direction is that in which the group is passed; None where it isn't known.
use Rattle.std.specs.Prelude.{ℕ, ◌==◌, Bool, ◌||◌, Option, Some, None, if◌then◌else◌}
use Rattle.balise_groups.specs.Description.{infill}
use Rattle.mode_table.specs.Packets.{uses}
use Rattle.mode_table.specs.declared.mode.Mode.{Mode}
use Rattle.packets.specs.Packets.{number_of}
use Rattle.packets.specs.declared.packet.Packet.{Packet}
use Rattle.track_picture.specs.Sentences.{is_valid, valid_in}
use Rattle.vars.specs.declared.linking.LinkOrientation.{LinkOrientation}
use Rattle.vars.specs.declared.packet_head.ValidityDirection.{ValidityDirection}
use Rattle.packet_uses.specs.declared.fate.Fate.{Fate}
use Rattle.packet_uses.specs.declared.fate.Fate.TheVariants.{Used, NotKnown, Infill, NotInMode, OtherDirection}

-- of a packet before infill, by its number and the direction in which it is valid
abbrev pub fate_by : Mode → Option LinkOrientation → ℕ → Option ValidityDirection → Fate
fate_by mode direction number None = NotKnown
fate_by mode direction number (Some valid) =
    if uses mode number then (if is_valid valid direction then Used else OtherDirection) else NotInMode

-- What becomes of a packet, where a packet 136 stands before it or not.
abbrev pub fate_reported : Mode → Option LinkOrientation → Bool → Packet → Fate
fate_reported mode direction after_infill packet =
    if after_infill || (number_of packet == infill) then Infill else fate_by mode direction (number_of packet) (valid_in packet)
