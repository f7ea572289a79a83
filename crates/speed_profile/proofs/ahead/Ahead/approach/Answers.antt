use Rattle.std.proofs.Common.{List, ◌++◌, ap, ◌∙◌}
use Rattle.track_store.specs.Profiles.{listed}
use Rattle.braking.specs.declared.target.Target.{Target}
use Rattle.braking.specs.Approaches.{lowered_by}
use Rattle.braking.proofs.Approaching.{lowered_from}
use Rattle.speed_profile.specs.Ahead.{targets_ahead, setting_out}
use Rattle.speed_profile.specs.Track.{speeds_along}
use Rattle.speed_profile.proofs.Asking.{lowered_same}
use Rattle.speed_profile.proofs.ahead.Ahead.approach.Goals as goal

pub returns : goal.returns
returns g c =
    let self = c.args.self.now in
    let gradient = g.G.Profile.value in
    let first = c.new-approach.result in
    let all = targets_ahead self.front self.bounds.now (speeds_along g.S.Profile.value self.track.now) ++ listed c.args.last in
    c.lower_by_all.ensures
    ∙ ap (λ (targets : List Target). lowered_by (gradient first.gradient) targets first) c.into_kinds-speeds.ensures
    ∙ lowered_same gradient c.targets.result.targets all first c.targets.ensures.left
    ∙ lowered_from gradient all first (setting_out self.front c.args.limit self.gradient.now self.brakes.now) c.new-approach.ensures
