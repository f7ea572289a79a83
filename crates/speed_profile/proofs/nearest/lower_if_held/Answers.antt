use Rattle.std.proofs.Common.{◌++◌, ap, sym, ◌∙◌}
use Rattle.std.specs.Prelude.{Option}
use Rattle.track_store.specs.Profiles.{listed}
use Rattle.braking.specs.declared.target.Target.{Target}
use Rattle.braking.specs.Approaches.{lowered_by}
use Rattle.speed_profile.proofs.nearest.lower_if_held.Goals as goal

pub returns-in-Some : goal.returns-in-Some
returns-in-Some g c others =
    let old = c.args.approach.now in
    c.lower_up_to.ensures others
    ∙ ap (λ (place : Option Target). lowered_by (g.G.Profile.value old.gradient) (c.args.speeds.now.targets ++ (listed place ++ others)) old) (sym c.in-Some.is)

pub returns-in_default : goal.returns-in_default
returns-in_default g c others =
    let old = c.args.approach.now in
    ap (λ (place : Option Target). lowered_by (g.G.Profile.value old.gradient) (c.args.speeds.now.targets ++ (listed place ++ others)) old) (sym c.in_default.is)
