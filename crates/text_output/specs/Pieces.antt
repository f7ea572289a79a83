-- A text in pieces, for people or as JSON (this project's profile).
use Rattle.std.specs.Prelude.{ℕ, List, codes, decimal, Option, Some, None, [], ◌∷◌, ◌++◌}
use Rattle.std.specs.Borrow.{Bor}
use Rattle.std.specs.Fmt.{signed_decimal}
use Rattle.text_output.specs.declared.piece.Form.{Form}
use Rattle.text_output.specs.declared.piece.Form.TheVariants.{People, Json}
use Rattle.text_output.specs.declared.piece.Piece.{Piece}
use Rattle.text_output.specs.declared.piece.Piece.TheVariants as a_piece

-- one text for people, another as JSON
abbrev pub text_in : Form → List ℕ → List ℕ → List ℕ
text_in People people json = people
text_in Json people json = json

abbrev pub text_of : Form → Piece → List ℕ
text_of form (a_piece.Text people json) = text_in form people.now json.now
text_of form (a_piece.Same text) = text.now
text_of form (a_piece.Number number) = decimal number
text_of form (a_piece.Signed number) = signed_decimal number
text_of form a_piece.Nothing = []

-- a number, or a sign that it isn't known
abbrev pub known_text : Form → Option ℕ → List ℕ
known_text form (Some number) = decimal number
known_text form None = text_in form (codes "?") (codes "null")

-- texts, one after another
abbrev pub joined : List (List ℕ) → List ℕ
joined [] = []
joined (t ∷ ts) = t ++ joined ts

abbrev pub texts : Form → List Piece → List ℕ
texts form [] = []
texts form (p ∷ ps) = text_of form p ++ texts form ps

-- a text, and after it those of parts
abbrev pub parts_after : Form → List ℕ → List (Bor (List Piece)) → List ℕ
parts_after form text [] = text
parts_after form text (p ∷ ps) = parts_after form (text ++ texts form p.now) ps

-- the texts of parts, one after another
abbrev pub part_texts : Form → List (Bor (List Piece)) → List ℕ
part_texts form [] = []
part_texts form (p ∷ ps) = parts_after form (texts form p.now) ps
