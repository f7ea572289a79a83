use Rattle.std.proofs.Common.{◌≡◌, ℕ, ℤ, ap, sym, subst, ◌∙◌}
use Rattle.units.specs.Stretches.{Span}
use Rattle.national.specs.declared.values.Values.{Values}
use Rattle.track_store.specs.Profiles.{Profile}
use Rattle.mode_control.specs.Sentences.{span_of}
use Rattle.speed_profile.specs.Track.{speeds_along}
use Rattle.speed_supervision.specs.Targets.{Journey}
use Rattle.speed_supervision.specs.Supervised.{permitted_on, IsCause}
use Rattle.speed_supervision.specs.Causes.{journey_of}
use Rattle.track_picture.proofs.Standing.{gradients_as}
use Rattle.speed_supervision.proofs.cause_by_mode.train_cause.Goals as goal

pub returns : goal.returns
returns g c life s =
    let known = c.args.supervision.now in
    let stretch : c.stretch-stretch.result ≡ span_of life = c.stretch-stretch.ensures life s in
    let front = c.max_front.ensures.value ∙ ap (λ (t : Span). t.max_front) stretch in
    let bounds = c.bounds-bounds.ensures life s in
    let along = c.along-track.ensures life s in
    let store : c.gradients.result.now ≡ known.track.gradients = c.gradients.ensures ∙ ap (λ (k : _). k.gradients) c.track.ensures in
    let gradient = ap g.T.Gradients.Profile.value store
    ∙ ap (λ (p : Profile ℤ). p.value) (sym (gradients_as g.met.T.ProfileStores.stores_are _ ∙ g.met.T.Gradients.ProfileStore.profile_is known.track.gradients) ∙ s.track_is.gradients_are) in
    let national = ap (λ (v : Values). v.release) (c.values.ensures life s) in
    let here : Journey = record {
      front = c.max_front.result;
      bounds = c.bounds-bounds.result;
      track = speeds_along g.T.Speeds.Profile.value c.along-track.result;
      gradient = g.T.Gradients.Profile.value c.gradients.result.now;
      brakes = c.brakes-brakes.result;
    } in
    let there : Journey = journey_of life c.args.train.now in
    let same : here ≡ there = λ i. record {
      front = front i;
      bounds = bounds i;
      track = along i;
      gradient = gradient i;
      brakes = c.brakes-brakes.ensures i;
    } in
    let release : ℕ = c.values.result.now.release in
    let train : Span = span_of life in
    let standing : IsCause train here release (permitted_on train here release) c.supervised_cause.result =
    subst (λ (t : Span). IsCause t here release (permitted_on t here release) c.supervised_cause.result) stretch c.supervised_cause.ensures in
    let journey : IsCause train there release (permitted_on train there release) c.supervised_cause.result =
    subst (λ (j : Journey). IsCause train j release (permitted_on train j release) c.supervised_cause.result) same standing in
    subst (λ (n : ℕ). IsCause train there n (permitted_on train there n) c.supervised_cause.result) national journey
