use Rattle.std.proofs.Common.{◌≡◌, rules, Ok}
use Rattle.simulator.specs.Values.{within}
use Rattle.simulator.specs.Actions.{brakes, train}
use Rattle.simulator.proofs.actions.train_of.Goals as goal

pub returns-in_err-category : goal.returns-in_err-category
unfolding train
returns-in_err-category c =
    let length : within 1 409_500 c.args.cm ≡ Ok c.in_ok-length.length = search rules in
    let maximum : within 1 600_000 c.args.mph ≡ Ok c.in_ok-maximum.maximum = search rules in
    let brakes_are : brakes c.args.rate c.args.time ≡ Ok c.in_ok-brakes.brakes = search rules in
    rw (length, maximum, brakes_are) (search rules)
