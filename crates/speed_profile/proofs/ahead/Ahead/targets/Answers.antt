use Rattle.std.proofs.Common.{◌++◌}
use Rattle.track_store.specs.Profiles.{listed}
use Rattle.speed_profile.specs.Ahead.{targets_ahead}
use Rattle.speed_profile.specs.Track.{speeds_along}
use Rattle.speed_profile.proofs.Asking.{through, reported_in_all}
use Rattle.speed_profile.proofs.Together.{reported_ask}
use Rattle.speed_profile.proofs.ahead.Ahead.targets.Goals as goal

pub returns-clause-left : goal.returns-clause-left
returns-clause-left g c =
    let self = c.args.self.now in
    let requested = reported_ask self.front self.bounds.now (speeds_along g.S.Profile.value self.track.now) c.args.last in
    rw c.new.ensures requested

pub returns-clause-reported : goal.returns-clause-reported
returns-clause-reported g c reported drains =
    let self = c.args.self.now in
    let along = speeds_along g.S.Profile.value self.track.now in
    let requested = reported_ask self.front self.bounds.now along c.args.last in
    through reported c.new.result.targets (targets_ahead self.front self.bounds.now along ++ listed c.args.last)
    (reported_in_all c.new.result reported drains) (rw c.new.ensures requested)
