use Rattle.std.proofs.Common.{ℤ, None, Some, subst}
use Rattle.track_picture.specs.Entry.{TrackEntry}
use Rattle.track_picture.specs.StandsFor.{StandsForLife, grown}
use Rattle.track_picture.proofs.SameParts.{by_columns, by_facts}
use Rattle.track_picture.proofs.state.TracksideOver.forget_passed.Goals as goal

pub returns-clause-stands : goal.returns-clause-stands
returns-clause-stands g c life event s =
    let entry : TrackEntry = record event { mark = None } in
    subst (λ (z : ℤ). StandsForLife g.T.ProfileStores.stores c.forget_before.new.self (grown life (record event { mark = Some z })))
    c.forgetting_mark.ensures
    (by_facts (grown life (record event { mark = Some c.forgetting_mark.result }))
    (c.forget_before.ensures.stands life event (by_columns (grown life entry) s)))
