use Rattle.std.proofs.Common.{◌≡◌, ℤ, ap, sym, subst, ◌∙◌}
use Rattle.units.specs.Stretches.{Span}
use Rattle.track_store.specs.Profiles.{Profile}
use Rattle.mode_control.specs.Sentences.{span_of}
use Rattle.speed_profile.specs.Track.{TrackSpeeds, speeds_along}
use Rattle.track_picture.proofs.Standing.{gradients_as}
use Rattle.speed_supervision.specs.declared.steady.SteadyLimit.{SteadyLimit}
use Rattle.speed_supervision.specs.Steady.{Covers, journey_of}
use Rattle.speed_supervision.specs.Supervised.{permitted_on}
use Rattle.speed_supervision.specs.Targets.{Journey}
use Rattle.speed_supervision.proofs.Remaining.{permitted_is}
use Rattle.speed_supervision.proofs.steady.find_for.Goals as goal

pub returns-clause-steady : goal.returns-clause-steady
returns-clause-steady g c life s train national within =
    let known = c.args.supervision.now in
    let along = c.along-track.ensures life s in
    let store : c.gradients.result.now ≡ known.track.gradients = c.gradients.ensures ∙ ap (λ (k : _). k.gradients) c.track-2.ensures in
    let gradient = ap g.T.Gradients.Profile.value store
    ∙ ap (λ (p : Profile ℤ). p.value) (sym (gradients_as g.met.T.ProfileStores.stores_are _ ∙ g.met.T.Gradients.ProfileStore.profile_is known.track.gradients) ∙ s.track_is.gradients_are) in
    let front = train.max_front in
    let bounds = c.bounds-bounds.result in
    let brakes = c.brakes-brakes.result in
    let speeds = c.along-track.result.national in
    let here : Journey = record {
      front = front;
      bounds = bounds;
      track = speeds_along g.T.Speeds.Profile.value c.along-track.result;
      gradient = g.T.Gradients.Profile.value c.gradients.result.now;
      brakes = brakes;
    } in
    let steady : SteadyLimit = record {
      limit = c.in_ok-limit.limit;
      widest = c.in_ok-stretches.stretches.0;
      narrowest = c.in_ok-stretches.stretches.1;
      bounds = bounds;
      brakes = brakes;
      national = speeds;
    } in
    let there : Journey = journey_of steady life train in
    let same : here ≡ there = λ i. record {
      front = front;
      bounds = bounds;
      track = record (along i) { national = speeds };
      gradient = gradient i;
      brakes = brakes;
    } in
    subst (λ (journey : Journey). permitted_on train journey national ≡ c.in_ok-limit.limit) same
    (c.in_ok-limit.ensures train national within.0 within.1)

pub returns-clause-limit : goal.returns-clause-limit
returns-clause-limit g c life s =
    let span = c.stretch-here.ensures life s in
    let stretches = c.in_ok-stretches.stretches in
    let wide : Covers stretches.0 (span_of life) = subst (λ (train : Span). Covers stretches.0 train) span c.in_ok-stretches.ensures.widest in
    let narrow : Covers (span_of life) stretches.1 = subst (λ (train : Span). Covers train stretches.1) span c.in_ok-stretches.ensures.narrowest in
    let steady : SteadyLimit = record {
      limit = c.in_ok-limit.limit;
      widest = stretches.0;
      narrowest = stretches.1;
      bounds = c.bounds-bounds.result;
      brakes = c.brakes-brakes.result;
      national = c.along-track.result.national;
    } in
    permitted_is steady life c.args.train.now (returns-clause-steady g c life s) (wide, narrow) (c.bounds-bounds.ensures life s) c.brakes-brakes.ensures
    (ap (λ (track : TrackSpeeds). track.national) (c.along-track.ensures life s))
