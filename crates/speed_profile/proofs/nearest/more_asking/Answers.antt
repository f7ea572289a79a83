use Rattle.speed_profile.proofs.Held.{single_asks, known_asks, reported_asks}
use Rattle.speed_profile.proofs.nearest.more_asking.Goals as goal

pub returns-in_default : goal.returns-in_default
returns-in_default c = single_asks c.args.known.now c.args.target.now c.in_default.is

pub returns-then-is_no_nearer : goal.returns-then-is_no_nearer
returns-then-is_no_nearer c =
    known_asks c.args.known.now c.in-Some.known c.args.target.now c.in-Some.is
    (record { place = c.is_no_nearer.ensures.place c.if-is_no_nearer.true; speed = c.is_no_nearer.ensures.speed c.if-is_no_nearer.true })

pub returns-then-is_no_nearer-2 : goal.returns-then-is_no_nearer-2
returns-then-is_no_nearer-2 c =
    reported_asks c.args.known.now c.in-Some.known c.args.target.now c.in-Some.is
    (record { place = c.is_no_nearer-2.ensures.place c.if-is_no_nearer-2.true; speed = c.is_no_nearer-2.ensures.speed c.if-is_no_nearer-2.true })
