use Rattle.std.proofs.Common.{ℕ, List, [], ◌∷◌, codes, ap, ◌∙◌, append-nil}
use Rattle.text_output.specs.Pieces.{text_in, joined}
use Rattle.packet_uses.specs.Texts.{name_in, name_reported}
use Rattle.packet_uses.proofs.texts.name_pieces.Goals as goal

pub returns-in-Some : goal.returns-in-Some
unfolding name_reported
returns-in-Some c = λ form.
    ap (λ (t : List ℕ). joined (text_in form [] (codes "\"") ∷ t ∷ text_in form [] (codes "\"") ∷ [])) c.text.ensures
    ∙ ap (name_in form) c.in-Some.ensures

pub returns-in-None : goal.returns-in-None
unfolding name_reported
returns-in-None c = λ form. append-nil (text_in form (codes "without a name") (codes "null")) ∙ ap (name_in form) c.in-None.ensures
