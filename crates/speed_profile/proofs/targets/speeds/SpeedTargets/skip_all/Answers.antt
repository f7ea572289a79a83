use Rattle.std.proofs.Common.{[], subst}
use Rattle.speed_profile.specs.Targets.{Left, AskTheSameBeyond}
use Rattle.speed_profile.proofs.Starting.{rest_asks}
use Rattle.speed_profile.proofs.targets.speeds.SpeedTargets.skip_all.Goals as goal

pub returns-clause-asks : goal.returns-clause-asks
returns-clause-asks g c =
    let self = c.self.inside in
    subst (λ (l : Left). AskTheSameBeyond l.speeds_from l.targets []) c.self.view_is
    (rest_asks self.bounds.now (g.S.Profile.value self.speeds.now) self.start)
