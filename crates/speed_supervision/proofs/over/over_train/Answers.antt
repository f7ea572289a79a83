use Rattle.std.proofs.Common.{ap, sym, ◌∙◌}
use Rattle.track_store.specs.Restrictions.{least_speed}
use Rattle.speed_profile.specs.Limit.{least_static, bound_speed}
use Rattle.speed_profile.specs.Track.{speeds_along}
use Rattle.speed_supervision.proofs.Naming.{area_named, none_over, no_area, no_static_speed}
use Rattle.speed_supervision.proofs.over.over_train.Goals as goal

pub returns-in-Some-clause-over : goal.returns-in-Some-clause-over
returns-in-Some-clause-over g c =
    let track = c.args.track.now in
    area_named track.national track.areas.now c.args.train.now c.args.limit c.in-Some.area (sym c.area_over.ensures ∙ c.in-Some.is)

pub bound_over-requires : goal.bound_over-requires
bound_over-requires g c =
    let track = c.args.track.now in
    let static = g.S.Profile.value track.speeds.now in
    let train = c.args.train.now in
    let bounds = c.args.bounds.now in
    let limit = c.args.limit in
    let bound = bound_speed train.max_front bounds in
    let on = least_static static bounds.category train bound in
    let restricted = no_area track.national track.areas.now train limit (sym c.area_over.ensures ∙ c.in_default.is)
    (least_speed track.restrictions.now.track train on) (sym c.requires) in
    let static_is = c.in_default-restriction_over.ensures.over on restricted in
    let bound_is = no_static_speed static bounds.category train limit c.in_default-static_speed_over.ensures bound static_is in
    sym bound_is ∙ ap (λ front. bound_speed front bounds) (sym c.max_front.ensures.value)

pub returns-clause-over : goal.returns-clause-over
returns-clause-over g c =
    c.bound_over.ensures.over c.args.train.now (speeds_along g.S.Profile.value c.args.track.now) (sym c.max_front.ensures.value)

pub returns-in-Some-restriction_over-clause-first : goal.returns-in-Some-restriction_over-clause-first
returns-in-Some-restriction_over-clause-first g c =
    let track = c.args.track.now in
    none_over track.national track.areas.now c.args.train.now c.args.limit (sym c.area_over.ensures ∙ c.in_default.is)

pub returns-in-Some-static_speed_over-clause-first : goal.returns-in-Some-static_speed_over-clause-first
returns-in-Some-static_speed_over-clause-first g c =
    let track = c.args.track.now in (
      none_over track.national track.areas.now c.args.train.now c.args.limit (sym c.area_over.ensures ∙ c.in_default.is),
      c.in_default-restriction_over.ensures.none,
    )

pub returns-clause-first : goal.returns-clause-first
returns-clause-first g c =
    let track = c.args.track.now in
    c.bound_over.ensures.bound c.args.train.now (speeds_along g.S.Profile.value track) (sym c.max_front.ensures.value) (
      none_over track.national track.areas.now c.args.train.now c.args.limit (sym c.area_over.ensures ∙ c.in_default.is),
      c.in_default-restriction_over.ensures.none,
      c.in_default-static_speed_over.ensures,
    )
