use Rattle.std.proofs.Common.{arith}
use Rattle.speed_profile.proofs.Held.{held_set}
use Rattle.speed_profile.proofs.nearest.hold.Goals as goal

pub returns-in-Some-clause-held : goal.returns-in-Some-clause-held
returns-in-Some-clause-held c = λ yes.
    held_set c.args.nearest.now c.saturating_sub-step.result c.index-nearest-step.result c.in-Some.kept c.args.target.now
    (omega (arith, c.saturating_sub-step.ensures, c.requires)) c.in-Some.ensures
