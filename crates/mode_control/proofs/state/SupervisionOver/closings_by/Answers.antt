use Rattle.std.proofs.Common.{◌≡◌, ap, ◌∙◌}
use Rattle.std.proofs.lemmas.Result.{IfOk-weaker}
use Rattle.mode_table.specs.declared.mode.Mode.{Mode}
use Rattle.track_picture.specs.declared.closings.Closings.{Closings}
use Rattle.track_picture.specs.Closings.{all_of}
use Rattle.track_picture.specs.Closings as track
use Rattle.track_picture.specs.StandsFor as track_picture
use Rattle.mode_control.specs.Closings.{closings_by}
use Rattle.mode_control.specs.History.{tracks}
use Rattle.mode_control.specs.Life.{Life, track_of}
use Rattle.mode_control.specs.StandsFor.{KnownModes, StandsForLife}
use Rattle.mode_control.proofs.Standing.{seen}
use Rattle.mode_control.proofs.state.SupervisionOver.closings_by.Goals as goal

pub returns-clause-closings : goal.returns-clause-closings
returns-clause-closings g c =
    let input = c.args.input.now in
    IfOk-weaker c.closings_by.result
    (λ (closings : Closings). (life : track_picture.Life) → track_picture.StandsForLife g.T.ProfileStores.stores c.self.inside.track life
    → all_of closings ≡ track.closings_by c.mode.result life.entries input)
    (λ (closings : Closings). (life : Life) → StandsForLife g.T.ProfileStores.stores c.args.self.now life → all_of closings ≡ closings_by life input)
    (λ closings reported life s. reported (track_of life) (seen c.self.view_is s).track_is
    ∙ ap (λ (mode : Mode). track.closings_by mode (tracks life.entries) input) (c.mode.ensures ∙ ap (λ (k : KnownModes). k.mode) s.parts_are))
    c.closings_by.ensures.closings
