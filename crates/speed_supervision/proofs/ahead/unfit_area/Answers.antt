use Rattle.std.proofs.Common.{◌≡◌, true, List, ◌+◌, drop, ap, sym, subst, ◌∙◌}
use Rattle.std.specs.Prelude.{Option, Contains}
use Rattle.std.proofs.lemmas.List.{at_drop_all}
use Rattle.track_store.specs.Profiles.{listed}
use Rattle.areas.specs.declared.area.Area.{Area}
use Rattle.areas.specs.Areas.{speed_in}
use Rattle.braking.specs.declared.target.Target.{Target}
use Rattle.speed_profile.specs.Starts.{first_in_area}
use Rattle.speed_supervision.specs.Targets.{journey_by, fits_all_on}
use Rattle.speed_supervision.proofs.Finding.{one_dropped}
use Rattle.speed_supervision.proofs.Hindering.{inside, fit_areas, fit_no_area, area_covers, area_ahead, at_its_place}
use Rattle.speed_supervision.proofs.ahead.unfit_area.Goals as goal

pub returns-in-Some-clause-found : goal.returns-in-Some-clause-found
returns-in-Some-clause-found g c =
    let journey = journey_by g.S.Profile.value g.G.Profile.value c.args.ahead.now in
    let a : Area = c.area-item.result in
    let unfit = rw (c.loop-area.invariant.1 ∙ c.requires) at c.in-Some.ensures.found in
    let w = area_covers journey c.args.approach.now.speed a c.in-Some.target (sym c.first_in_area-requested.ensures ∙ unfit.0) in
    let there : Contains journey.track.areas a =
    subst (λ (items : List Area). Contains items a) c.as_slice-areas.ensures
    (c.loop-area.area-index, c.loop-area-test.true, sym c.area-item.is) in
    let here = area_ahead journey c.in-Some.target c.in-Some.target.place w.0 a there w.1
    (at_its_place c.in-Some.target (speed_in journey.track.national a) w.2) in
    ((w.0, there, w.1, w.2), here, unfit.1)

pub loop-area-preserved : goal.loop-area-preserved
loop-area-preserved g c =
    let journey = journey_by g.S.Profile.value g.G.Profile.value c.args.ahead.now in
    let a : Area = c.area-item.result in
    let areas = c.as_slice-areas.result.now in
    let i = c.loop-area.area-index in
    let here : fits_all_on journey (listed (first_in_area journey.front journey.track.national a)) c.args.approach.now.speed ≡ true =
    ap (λ (t : Option Target). fits_all_on journey (listed t) c.args.approach.now.speed) (sym c.first_in_area-requested.ensures) ∙ (rw (c.loop-area.invariant.1 ∙ c.requires) at c.in_default.ensures.found) in (
      λ others. c.loop-area.invariant.0 (fit_areas journey c.args.approach.now.speed a (drop (i + 1) areas) (drop i areas)
          (one_dropped areas i a c.loop-area-test.true c.area-item.is) here others),
      c.unfit.ensures.same ∙ c.loop-area.invariant.1,
    )

pub returns-clause-found : goal.returns-clause-found
returns-clause-found g c =
    let journey = journey_by g.S.Profile.value g.G.Profile.value c.args.ahead.now in
    let areas = c.as_slice-areas.result.now in
    let fit = λ (items : List Area). fits_all_on journey (inside journey c.args.approach.now.speed items) c.args.approach.now.speed in
    ap fit (sym c.as_slice-areas.ensures)
    ∙ c.loop-area.invariant.0 (at_drop_all fit areas c.loop-area.area-index c.loop-area-test.false ∙ fit_no_area journey c.args.approach.now.speed)
