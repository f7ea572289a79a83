-- What is reported of a packet, for people and as JSON: its number, its name, where it stands and why it isn't used
-- (this project's profile; RFC 8259). Places and lengths are bits; places are counted from the first bit of the
-- telegram.
use Rattle.std.specs.Prelude.{ℕ, List, [], ◌∷◌, Bool, Option, Some, None, codes, decimal, if◌then◌else◌}
use Rattle.text_output.specs.Pieces.{text_in, joined}
use Rattle.text_output.specs.declared.piece.Form.{Form}
use Rattle.packet_uses.specs.declared.fate.Fate.{Fate}
use Rattle.packet_uses.specs.declared.fate.Fate.TheVariants as fates
use Rattle.track_packets.specs.Kinds.{kind_reported, name_text}
use Rattle.track_packets.specs.declared.kind.Kind.{Kind}

-- the number, up to the name: for people after this label, as JSON after a comma where another packet is before it
abbrev pub number_text : Form → List ℕ → Bool → ℕ → List ℕ
number_text form label later number =
    joined (text_in form label (if later then codes ",{\"packet\":" else codes "{\"packet\":") ∷ decimal number
    ∷ text_in form (codes " ") (codes ",\"name\":") ∷ [])

-- the name, if the number has one
abbrev pub name_in : Form → Option Kind → List ℕ
name_in form (Some kind) = joined (text_in form [] (codes "\"") ∷ name_text kind.name ∷ text_in form [] (codes "\"") ∷ [])
name_in form None = text_in form (codes "without a name") (codes "null")

unfoldable pub name_reported : Form → ℕ → List ℕ
name_reported form number = name_in form (kind_reported number)

-- the first bit and the length, up to why it isn't used
abbrev pub place_text : Form → ℕ → ℕ → List ℕ
place_text form start length =
    joined (text_in form (codes " at ") (codes ",\"bit\":") ∷ decimal start ∷ text_in form (codes ", ") (codes ",\"bits\":")
    ∷ decimal length ∷ text_in form (codes " bits") (codes ",\"why\":") ∷ [])

-- why it isn't used; null of one that is
abbrev pub why_text : Form → Fate → List ℕ
why_text form fates.Used = text_in form [] (codes "null")
why_text form fates.NotKnown = text_in form (codes " (not known)") (codes "\"not_known\"")
why_text form fates.Infill = text_in form (codes " (infill)") (codes "\"infill\"")
why_text form fates.NotInMode = text_in form (codes " (not in this mode)") (codes "\"not_in_mode\"")
why_text form fates.OtherDirection = text_in form (codes " (other direction)") (codes "\"other_direction\"")
why_text form fates.Refused = text_in form (codes " (refused)") (codes "\"refused\"")
