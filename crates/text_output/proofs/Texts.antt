-- The texts of pieces, one after another.
use Rattle.std.proofs.Common.{◌≡◌, ℕ, List, Bor, [], ◌∷◌, ◌++◌, flat_map, refl, ap, sym, ◌∙◌}
use Rattle.std.proofs.lemmas.List.{append_assoc, append-nil}
use Rattle.std.proofs.lemmas.List.Concat.{flat_map-cons}
use Rattle.text_output.specs.declared.piece.Form.{Form}
use Rattle.text_output.specs.declared.piece.Piece.{Piece}
use Rattle.text_output.specs.Pieces.{text_of, texts, parts_after, part_texts}

pub texts-flat : (form : Form) (ps : List Piece) → flat_map (text_of form) ps ≡ texts form ps
texts-flat form [] = refl
texts-flat form (p ∷ ps) = flat_map-cons (text_of form) p ps ∙ ap (λ l. text_of form p ++ l) (texts-flat form ps)

abbrev pub part_text : Form → Bor (List Piece) → List ℕ
part_text form part = texts form part.now

following-flat : (form : Form) (text : List ℕ) (ps : List (Bor (List Piece))) → text ++ flat_map (part_text form) ps ≡ parts_after form text ps
following-flat form text [] = append-nil text
following-flat form text (p ∷ ps) =
    ap (λ l. text ++ l) (flat_map-cons (part_text form) p ps)
    ∙ sym (append_assoc text (texts form p.now) (flat_map (part_text form) ps)) ∙ following-flat form (text ++ texts form p.now) ps

pub parts-flat : (form : Form) (ps : List (Bor (List Piece))) → flat_map (part_text form) ps ≡ part_texts form ps
parts-flat form [] = refl
parts-flat form (p ∷ ps) = flat_map-cons (part_text form) p ps ∙ following-flat form (texts form p.now) ps
