use Rattle.std.proofs.Common.{◌≡◌, ap, ◌∙◌}
use Rattle.units.specs.Stretches.{over, least}
use Rattle.track_store.specs.Profiles.{listed}
use Rattle.track_store.specs.Restrictions.{least_speed}
use Rattle.areas.specs.Areas.{least_speed as least_in_areas}
use Rattle.speed_profile.specs.Limit.{bound_speed, limiting_value, least_static}
use Rattle.speed_profile.proofs.limit.limit_on.Goals as goal

pub returns : goal.returns
returns g c =
    let track = c.args.track.now in
    let profile = g.S.Profile.value track.speeds.now in
    let train = c.args.train.now in
    let category = c.args.bounds.now.category in
    let bound : c.bound_speed-bound.result ≡ bound_speed train.max_front c.args.bounds.now =
    c.bound_speed-bound.ensures ∙ ap (λ front. bound_speed front c.args.bounds.now) c.max_front.ensures.value in
    let static : c.least_over-least.result ≡ least_static profile category train (bound_speed train.max_front c.args.bounds.now) =
    c.least_over-least.ensures
    ∙ (λ i. least (bound i) (over (λ place. listed (limiting_value category (c.min_front.ensures.value i) place (profile place)))
    (c.rear.ensures.value i) (c.max_front-2.ensures.value i))) in
    let restricted = c.least-restricted.ensures ∙ ap (least_speed track.restrictions.now.track train) static in
    c.least.ensures ∙ ap (λ speed. least_in_areas track.national train speed track.areas.now) restricted
