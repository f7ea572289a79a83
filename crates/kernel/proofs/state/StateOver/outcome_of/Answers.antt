use Rattle.std.proofs.Common.{sym, subst}
use Rattle.mode_control.specs.Life.{track_of}
use Rattle.track_picture.specs.StandsFor as track
use Rattle.kernel.proofs.Standing.{seen}
use Rattle.kernel.proofs.state.StateOver.outcome_of.Goals as goal

pub returns : goal.returns
returns g c = λ life stands.
    let track_is = (seen c.self.view_is stands).supervision_is.track_is in
    c.outcome_of.ensures (track_of life) (subst (λ known. track.StandsForLife g.T.ProfileStores.stores known (track_of life)) (sym c.track.ensures) track_is)
