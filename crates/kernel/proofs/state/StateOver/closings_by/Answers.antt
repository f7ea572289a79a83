use Rattle.std.proofs.Common.{◌≡◌, ap, sym, ◌∙◌}
use Rattle.std.proofs.lemmas.Result.{IfOk-weaker}
use Rattle.mode_control.specs.Closings.{closings_by}
use Rattle.mode_control.specs.Life.{Life}
use Rattle.mode_control.specs.StandsFor as mode_control
use Rattle.track_picture.specs.declared.closings.Closings.{Closings}
use Rattle.track_picture.specs.Closings.{all_of}
use Rattle.kernel.specs.Closings.{closings_after}
use Rattle.kernel.specs.Lives.{Past}
use Rattle.kernel.specs.StandsFor.{StandsAt}
use Rattle.kernel.proofs.Standing.{seen}
use Rattle.kernel.proofs.state.StateOver.closings_by.Goals as goal

pub returns-in-Input-clause-closings : goal.returns-in-Input-clause-closings
returns-in-Input-clause-closings g c =
    IfOk-weaker c.closings_by.result
    (λ (closings : Closings). (life : Life) → mode_control.StandsForLife g.T.ProfileStores.stores c.self.inside.supervision life
    → all_of closings ≡ closings_by life c.in-Input.input)
    (λ (closings : Closings). (past : Past) → StandsAt g.T.ProfileStores.stores c.args.self.now past
    → all_of closings ≡ closings_after past c.args.event.now)
    (λ closings reported past s. reported past.life (seen c.self.view_is s.life_is).supervision_is ∙ ap (closings_after past) (sym c.in-Input.is))
    c.closings_by.ensures.closings
