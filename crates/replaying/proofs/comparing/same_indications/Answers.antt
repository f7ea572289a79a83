use Rattle.std.proofs.Common.{◌≡◌, ◌∙◌, ap, sym}
use Rattle.std.proofs.lemmas.Bool.{eqb-true, eq-eqb}
use Rattle.events.specs.declared.output.Indications.{Indications}
use Rattle.events.specs.Indications.{number_of}
use Rattle.blocks.specs.Codes.{indications_from}
use Rattle.blocks.proofs.Fitting.{indications_again}
use Rattle.replaying.proofs.comparing.same_indications.Goals as goal

same_shown : (a b : Indications) → number_of a ≡ number_of b → a ≡ b
same_shown a b same = sym (indications_again a) ∙ ap indications_from same ∙ indications_again b

pub returns : goal.returns
returns c = (
  λ t. same_shown c.args.one.now c.args.other.now (sym c.number.ensures ∙ eqb-true c.number.result c.number-2.result t ∙ c.number-2.ensures),
  λ e. eq-eqb c.number.result c.number-2.result (c.number.ensures ∙ ap number_of e ∙ sym c.number-2.ensures),
)
