use Rattle.speed_profile.proofs.Held.{near_asks}
use Rattle.speed_profile.proofs.nearest.is_decided.Goals as goal

pub returns-in-Some : goal.returns-in-Some
returns-in-Some c = λ yes.
    near_asks c.args.near.now c.in-Some.near c.args.target.now c.in-Some.is
    (record { place = c.is_no_nearer.ensures.place yes; speed = c.is_no_nearer.ensures.speed yes })
