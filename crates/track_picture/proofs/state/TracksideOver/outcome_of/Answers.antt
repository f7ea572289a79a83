use Rattle.std.proofs.Common.{rules, ◌∙◌, refl}
use Rattle.track_picture.proofs.Carrying.{carried_in}
use Rattle.track_picture.proofs.state.TracksideOver.outcome_of.Goals as goal

pub returns-in-Ok : goal.returns-in-Ok
returns-in-Ok g c = λ life stands.
    let carried = carried_in _ _ ((c.in-Ok.ensures.found _).0 refl) in
    (c.in-Ok.telegram, carried, c.hearing.ensures ∙ search (rules, stands.parts_are))
