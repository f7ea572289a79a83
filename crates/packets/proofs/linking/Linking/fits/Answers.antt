use Rattle.std.proofs.Common.{◌↔◌, sym, subst, ◌∙◌}
use Rattle.std.specs.Prelude.{IsTrue}
use Rattle.std.proofs.lemmas.Bool.{false≢true}
use Rattle.packets.specs.Elements.{link}
use Rattle.packets.specs.Layouts.{linking_description}
use Rattle.packets.specs.Parts.{FromFirstFits}
use Rattle.packets.proofs.linking.Linking.fits.Goals as goal

pub returns-then-head_fits : goal.returns-then-head_fits
unfolding linking_description
returns-then-head_fits c =
    let all = subst (λ xs. IsTrue c.from_first_fits.result ↔ FromFirstFits link xs) c.as_slice.ensures.value c.from_first_fits.ensures in (
      λ t. let a = all.0 t in (c.head_fits.ensures.0 c.if-head_fits.true, ((a.0, (a.1, a.2)), tt)),
      λ f. let a = f.1.0 in all.1 (a.0, a.1.0, a.1.1),
    )

pub returns-else-head_fits : goal.returns-else-head_fits
unfolding linking_description
returns-else-head_fits c = (λ t. absurd (false≢true (sym c.if-head_fits.false ∙ t)), λ f. c.head_fits.ensures.1 f.0)
