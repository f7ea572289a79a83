use Rattle.std.proofs.Common.{◌≡◌, ◌<ℤ◌, true, refl, ℤ, pos, ◌+ℤ◌, List, ap, sym, subst, ◌∙◌, arith}
use Rattle.std.specs.Prelude.{Option, Some}
use Rattle.track_store.specs.Profiles.{listed}
use Rattle.braking.specs.declared.target.Target.{Target}
use Rattle.speed_profile.specs.Ahead.{static_target, static_targets}
use Rattle.speed_profile.proofs.Starting.{first_rest, less_left, lasts_ahead}
use Rattle.speed_supervision.specs.declared.cause.TargetKind.{TargetKind}
use Rattle.speed_supervision.specs.Targets.{journey_by, fits_all_on, IsOfKind}
use Rattle.speed_supervision.proofs.Hindering.{fit_piece, static_is, static_ahead, starts_ahead, next_ahead}
use Rattle.speed_supervision.proofs.ahead.unfit_static_speed.Goals as goal

pub loop-start-init : goal.loop-start-init
loop-start-init g c =
    let journey = journey_by g.S.Profile.value g.G.Profile.value c.args.ahead.now in
    let start = c.next_after-start.result in
    let is = first_rest (static_targets journey.bounds journey.track.static) (journey.front +ℤ pos 1) start c.next_after-start.ensures in (
      λ left. ap (λ (ts : List Target). fits_all_on journey ts c.args.approach.now.speed) (sym is) ∙ left,
      starts_ahead journey.front start c.next_after-start.ensures,
      refl,
    )

pub returns-in-Some-unfit-clause-found : goal.returns-in-Some-unfit-clause-found
returns-in-Some-unfit-clause-found g c =
    let journey = journey_by g.S.Profile.value g.G.Profile.value c.args.ahead.now in
    let unfit = rw (c.loop-start.invariant.2 ∙ c.requires) at c.in-Some-unfit.ensures.found in
    let before : journey.front <ℤ c.in-Some.place = rw c.in-Some.is at c.loop-start.invariant.1 in
    let requested : static_target journey.bounds c.in-Some.place (journey.track.static c.in-Some.place) ≡ Some c.in-Some-unfit.target =
    ap (static_target journey.bounds c.in-Some.place) (sym c.piece-here.ensures.value) ∙ sym c.static_target-requested.ensures.value ∙ unfit.0 in
    let here = static_ahead journey c.in-Some-unfit.target c.in-Some.place (before, c.static_target-requested.ensures.within) requested in
    let kind_is = static_is journey c.args.approach.now.speed c.in-Some.place c.piece-here.result.value c.in-Some-unfit.target
    (sym c.static_target-requested.ensures.value ∙ unfit.0) c.piece-here.ensures.value (before, c.static_target-requested.ensures.within) in
    (subst (λ (k : TargetKind). IsOfKind journey c.in-Some-unfit.target k) (sym c.static_kind-kind.ensures) kind_is, here, unfit.1)

pub loop-start-smaller : goal.loop-start-smaller
loop-start-smaller g c =
    let place : ℤ = c.in-Some.place in
    let within = c.static_target-requested.ensures.within in
    let profile = g.S.Profile.value c.args.ahead.now.track.now.speeds.now in
    let next = c.piece-here.result.next in
    let fewer = less_left place next within (lasts_ahead profile place next c.piece-here.ensures.next) in
    rw c.in-Some.is (omega (arith, fewer))

pub loop-start-preserved : goal.loop-start-preserved
loop-start-preserved g c =
    let journey = journey_by g.S.Profile.value g.G.Profile.value c.args.ahead.now in
    let place : ℤ = c.in-Some.place in
    let next = c.piece-here.result.next in
    let lasts = c.piece-here.ensures.next in
    let before : journey.front <ℤ place = rw c.in-Some.is at c.loop-start.invariant.1 in
    let requested : c.static_target-requested.result ≡ static_target journey.bounds place (journey.track.static place) =
    c.static_target-requested.ensures.value ∙ ap (static_target journey.bounds place) c.piece-here.ensures.value in
    let here : fits_all_on journey (listed (static_target journey.bounds place (journey.track.static place))) c.args.approach.now.speed ≡ true =
    ap (λ (t : Option Target). fits_all_on journey (listed t) c.args.approach.now.speed) (sym requested) ∙ (rw (c.loop-start.invariant.2 ∙ c.requires) at c.in_default-unfit.ensures.found) in (
      λ others. c.loop-start.invariant.0 (rw c.in-Some.is
          (fit_piece journey c.args.approach.now.speed place c.static_target-requested.ensures.within next lasts here others)),
      next_ahead journey.front place journey.track.static next lasts before,
      c.unfit.ensures.same ∙ c.loop-start.invariant.2,
    )

pub returns-clause-found : goal.returns-clause-found
returns-clause-found g c = c.loop-start.invariant.0 (rw c.in_default.is refl)
