use Rattle.std.proofs.Common.{Some, ap, subst, ◌∙◌}
use Rattle.odometry.specs.Place.{stretch}
use Rattle.units.specs.Stretches.{Span}
use Rattle.track_picture.specs.Sentences.{forgetting_mark}
use Rattle.track_picture.specs.StandsFor.{KnownTrack, StandsForLife, grown}
use Rattle.track_picture.proofs.Standing.{seen}
use Rattle.track_picture.proofs.state.TracksideOver.forget.Goals as goal

pub returns-clause-stands : goal.returns-clause-stands
returns-clause-stands g c life event s =
    let before = seen c.self.view_is s in
    let train = c.stretch-stretch.ensures.value ∙ ap (λ w. stretch w.parts.place c.args.length) c.self-inside.view_is
    ∙ ap (λ (k : KnownTrack). stretch k.place c.args.length) before.parts_are in
    subst (λ (t : Span). StandsForLife g.T.ProfileStores.stores c.forget_passed.new.self (grown life (record event { mark = Some (forgetting_mark t) })))
    train
    (c.forget_passed.ensures.stands life event s)
