use Rattle.std.proofs.Common.{refl, ◌∙◌}
use Rattle.braking.specs.Approaches.{lowered}
use Rattle.speed_profile.specs.Ahead.{targets_ahead, setting_out}
use Rattle.speed_profile.specs.Track.{speeds_along}
use Rattle.speed_profile.proofs.Asking.{lowered_last}
use Rattle.speed_profile.proofs.ahead.Ahead.permitted_apart.Goals as goal

pub returns-clause-near : goal.returns-clause-near
returns-clause-near g c =
    let self = c.args.self.now in
    let ahead = targets_ahead self.front self.bounds.now (speeds_along g.S.Profile.value self.track.now) in
    let approach = c.approach-approach.result in
    c.lowered_for_either.ensures.near
    ∙ lowered_last g.G.Profile.value ahead c.args.near (setting_out self.front c.args.limit self.gradient.now self.brakes.now)
    approach (lowered (g.G.Profile.value approach.gradient) c.args.near approach) c.approach-approach.ensures refl

pub returns-clause-far : goal.returns-clause-far
returns-clause-far g c =
    let self = c.args.self.now in
    let ahead = targets_ahead self.front self.bounds.now (speeds_along g.S.Profile.value self.track.now) in
    let approach = c.approach-approach.result in
    c.lowered_for_either.ensures.far
    ∙ lowered_last g.G.Profile.value ahead c.args.far (setting_out self.front c.args.limit self.gradient.now self.brakes.now)
    approach (lowered (g.G.Profile.value approach.gradient) c.args.far approach) c.approach-approach.ensures refl
