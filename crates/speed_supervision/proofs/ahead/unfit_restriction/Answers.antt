use Rattle.std.proofs.Common.{◌≡◌, true, ℤ, List, ◌+◌, drop, ap, sym, subst, ◌∙◌}
use Rattle.std.specs.Prelude.{Option, Contains}
use Rattle.std.proofs.lemmas.List.{at_drop_all}
use Rattle.track_store.specs.Profiles.{listed}
use Rattle.track_store.specs.declared.restriction.Restriction.{Restriction}
use Rattle.braking.specs.declared.target.Target.{Target}
use Rattle.speed_profile.specs.Starts.{first_target}
use Rattle.speed_supervision.specs.Targets.{journey_by, fits_all_on}
use Rattle.speed_supervision.proofs.Finding.{one_dropped}
use Rattle.speed_supervision.proofs.Hindering.{restricted, fit_restrictions, fit_no_restriction, restriction_covers, restriction_ahead, at_its_place}
use Rattle.speed_supervision.proofs.ahead.unfit_restriction.Goals as goal

pub returns-in-Some-clause-found : goal.returns-in-Some-clause-found
returns-in-Some-clause-found g c =
    let journey = journey_by g.S.Profile.value g.G.Profile.value c.args.ahead.now in
    let r : Restriction = c.restriction-item.result in
    let requested : c.first_target-requested.result ≡ first_target journey.front journey.track.restrictions.mark r =
    c.first_target-requested.ensures ∙ ap (λ (m : ℤ). first_target journey.front m r) c.mark-mark.ensures in
    let unfit = rw (c.loop-restriction.invariant.1 ∙ c.requires) at c.in-Some.ensures.found in
    let w = restriction_covers journey c.args.approach.now.speed r c.in-Some.target (sym requested ∙ unfit.0) in
    let there : Contains journey.track.restrictions.restrictions r =
    subst (λ (rs : List Restriction). Contains rs r) c.as_slice-restrictions.ensures
    (c.loop-restriction.restriction-index, c.loop-restriction-test.true, sym c.restriction-item.is) in
    let here = restriction_ahead journey c.in-Some.target c.in-Some.target.place w.0 r there w.1 (at_its_place c.in-Some.target r.speed w.2) in
    ((w.0, there, w.1, w.2), here, unfit.1)

pub loop-restriction-preserved : goal.loop-restriction-preserved
loop-restriction-preserved g c =
    let journey = journey_by g.S.Profile.value g.G.Profile.value c.args.ahead.now in
    let r : Restriction = c.restriction-item.result in
    let rs = c.as_slice-restrictions.result.now in
    let i = c.loop-restriction.restriction-index in
    let requested : c.first_target-requested.result ≡ first_target journey.front journey.track.restrictions.mark r =
    c.first_target-requested.ensures ∙ ap (λ (m : ℤ). first_target journey.front m r) c.mark-mark.ensures in
    let here : fits_all_on journey (listed (first_target journey.front journey.track.restrictions.mark r)) c.args.approach.now.speed ≡ true =
    ap (λ (t : Option Target). fits_all_on journey (listed t) c.args.approach.now.speed) (sym requested) ∙ (rw (c.loop-restriction.invariant.1 ∙ c.requires) at c.in_default.ensures.found) in (
      λ others. c.loop-restriction.invariant.0 (fit_restrictions journey c.args.approach.now.speed r (drop (i + 1) rs) (drop i rs)
          (one_dropped rs i r c.loop-restriction-test.true c.restriction-item.is) here others),
      c.unfit.ensures.same ∙ c.loop-restriction.invariant.1,
    )

pub returns-clause-found : goal.returns-clause-found
returns-clause-found g c =
    let journey = journey_by g.S.Profile.value g.G.Profile.value c.args.ahead.now in
    let rs = c.as_slice-restrictions.result.now in
    let fit = λ (items : List Restriction). fits_all_on journey (restricted journey c.args.approach.now.speed items) c.args.approach.now.speed in
    ap fit (sym c.as_slice-restrictions.ensures)
    ∙ c.loop-restriction.invariant.0 (at_drop_all fit rs c.loop-restriction.restriction-index c.loop-restriction-test.false
    ∙ fit_no_restriction journey c.args.approach.now.speed)
