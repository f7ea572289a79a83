use Rattle.std.proofs.Common.{List, ◌++◌, ap, ◌∙◌}
use Rattle.std.specs.Prelude.{Option}
use Rattle.braking.specs.declared.target.Target.{Target}
use Rattle.braking.specs.Approaches.{lowered_by}
use Rattle.speed_profile.specs.Targets.{held}
use Rattle.braking.proofs.Approaching.{lowered_by_more}
use Rattle.speed_profile.proofs.Held.{lowered_held}
use Rattle.speed_profile.proofs.nearest.take.Goals as goal

pub returns-then-not-hold-clause-requested : goal.returns-then-not-hold-clause-requested
returns-then-not-hold-clause-requested g c others =
    let now = c.lower.new.self in
    ap (λ (places : List (Option Target)). lowered_by (g.G.Profile.value now.gradient) (held places ++ others) now) (c.hold.ensures.left c.if-not-hold.true)
    ∙ lowered_by_more g.G.Profile.value c.args.target.now (held c.args.nearest.now ++ others) c.args.approach.now c.lower.new.self c.lower.ensures

pub returns-else-not-hold-clause-requested : goal.returns-else-not-hold-clause-requested
returns-else-not-hold-clause-requested g c others =
    lowered_held g.G.Profile.value (held c.hold.new.nearest) (held c.args.nearest.now) others c.args.target.now c.args.approach.now (c.hold.ensures.held c.if-not-hold.false)
