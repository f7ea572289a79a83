use Rattle.std.proofs.Common.{◌∷◌, []}
use Rattle.speed_profile.proofs.Asking.{back, through}
use Rattle.speed_profile.proofs.Held.{of_all, of_through, of_passed}
use Rattle.speed_profile.proofs.nearest.next_to_brake_for.Goals as goal

pub returns-then-not-surely_fits-clause-requested : goal.returns-then-not-surely_fits-clause-requested
returns-then-not-surely_fits-clause-requested g c =
    let value = g.G.Profile.value in
    let course = c.args.approach.now in
    let before = c.loop-target.others.targets in
    let reported = c.in-Some.target ∷ c.next.new.self.targets in
    of_through value c.args.others.now.targets before reported course c.loop-target.invariant (of_all value before reported course c.in-Some.ensures.steps)

pub loop-target-preserved : goal.loop-target-preserved
loop-target-preserved g c =
    let value = g.G.Profile.value in
    let course = c.args.approach.now in
    let before = c.loop-target.others.targets in
    let after = c.next.new.self.targets in
    of_through value c.args.others.now.targets before after course c.loop-target.invariant
    (of_passed value c.in-Some.target before after course c.in-Some.ensures.steps (c.surely_fits.ensures.fits c.if-not-surely_fits.false))

pub returns-clause-requested : goal.returns-clause-requested
returns-clause-requested g c =
    let value = g.G.Profile.value in
    let course = c.args.approach.now in
    let before = c.loop-target.others.targets in
    let after = c.next.new.self.targets in
    of_through value c.args.others.now.targets before after course c.loop-target.invariant
    (of_all value before after course (through before [] after c.in_default.ensures.steps.0 (back after [] c.in_default.ensures.steps.1)))
