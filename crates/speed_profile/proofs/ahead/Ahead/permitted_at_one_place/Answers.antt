use Rattle.std.proofs.Common.{◌∙◌}
use Rattle.speed_profile.specs.Ahead.{targets_ahead, setting_out}
use Rattle.speed_profile.specs.Track.{speeds_along}
use Rattle.speed_profile.proofs.Held.{lowered_near}
use Rattle.speed_profile.proofs.ahead.Ahead.permitted_at_one_place.Goals as goal

pub returns-clause-near : goal.returns-clause-near
returns-clause-near g c =
    let self = c.args.self.now in
    let ahead = targets_ahead self.front self.bounds.now (speeds_along g.S.Profile.value self.track.now) in
    c.speed.ensures
    ∙ lowered_near g.G.Profile.value ahead c.args.near c.args.far (setting_out self.front c.args.limit self.gradient.now self.brakes.now)
    c.approach-approach.result c.lower.new.self (record { place = c.requires.place; speed = c.requires.speed }) c.approach-approach.ensures c.lower.ensures
