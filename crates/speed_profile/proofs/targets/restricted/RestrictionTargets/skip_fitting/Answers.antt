use Rattle.std.proofs.Common.{◌≡◌, List, ◌∷◌, ◌++◌, true, refl, ap, sym, ◌∙◌}
use Rattle.track_store.specs.declared.restriction.Restriction.{Restriction}
use Rattle.track_store.specs.Profiles.{listed}
use Rattle.braking.specs.declared.target.Target.{Target}
use Rattle.braking.specs.Braking.{fits}
use Rattle.speed_profile.specs.Ahead.{over_ahead, restriction_targets}
use Rattle.speed_profile.specs.Starts.{first_target}
use Rattle.speed_profile.specs.Targets.{AskTheSame}
use Rattle.speed_profile.proofs.Asking.{requested_at}
use Rattle.speed_profile.proofs.Held.{of_through, of_no_nearer}
use Rattle.speed_profile.proofs.Reaching.{restriction_asks, begins_ahead}
use Rattle.speed_profile.proofs.targets.restricted.RestrictionTargets.skip_fitting.Goals as goal

pub loop-first-preserved : goal.loop-first-preserved
loop-first-preserved g c =
    let value = g.G.Profile.value in
    let course = c.args.approach.now in
    let self = c.loop-first.self-inside in
    let first = c.in-Some.first.now in
    let others = c.in-Some.others.now in
    let ahead = λ (items : List Restriction). over_ahead self.front (restriction_targets self.mark items) in
    let target = first_target self.front self.mark first in
    let requested : AskTheSame (ahead self.left.now) (listed target ++ ahead others) =
    requested_at (ahead self.left.now) (ahead (first ∷ others)) (ahead others) target target (ap ahead c.in-Some.ensures.cases.0) refl
    (restriction_asks self.front self.mark first others) in
    let near : Target = record { place = first.start; speed = first.speed } in
    let fit : fits course.front (value course.gradient) course.brakes near course.speed ≡ true =
    ap (λ (t : Target). fits course.front (value course.gradient) course.brakes t course.speed) (sym c.start_of.ensures)
    ∙ c.surely_fits.ensures.fits c.if-not-surely_fits.false in
    of_through value c.args.self.now.targets (ahead self.left.now) (ahead others) course c.loop-first.invariant
    (of_no_nearer value near target (ahead self.left.now) (ahead others) course requested (begins_ahead self.front self.mark first) fit)
