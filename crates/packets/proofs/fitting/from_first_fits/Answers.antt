use Rattle.std.proofs.Common.{sym, ◌∙◌}
use Rattle.packets.proofs.FirstFits.{first_fits}
use Rattle.packets.proofs.fitting.from_first_fits.Goals as goal

pub returns-then-not-is_empty : goal.returns-then-not-is_empty
returns-then-not-is_empty g c =
    let halves = first_fits g.T.Element.layout c.args.elements.now (sym c.is_empty.ensures ∙ c.if-not-is_empty.true) c.requires in
    (λ t. halves.0 (c.all_fit.ensures.0 t), λ f. c.all_fit.ensures.1 (halves.1 f))
