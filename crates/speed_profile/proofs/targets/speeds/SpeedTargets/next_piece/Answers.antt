use Rattle.std.proofs.Common.{◌≡◌, ℤ, ◌++◌, ap, subst, ◌∙◌}
use Rattle.std.specs.Prelude.{Some}
use Rattle.track_store.specs.Profiles.{listed}
use Rattle.speed_profile.specs.Ahead.{static_target, static_targets}
use Rattle.speed_profile.specs.Starts.{rest}
use Rattle.speed_profile.specs.Targets.{Left, AskTheSame}
use Rattle.speed_profile.proofs.Asking.{requested_at}
use Rattle.speed_profile.proofs.Starting.{piece_asks}
use Rattle.speed_profile.proofs.targets.speeds.SpeedTargets.next_piece.Goals as goal

pub returns-clause-requested : goal.returns-clause-requested
returns-clause-requested g c =
    let self = c.self.inside in
    let profile = g.S.Profile.value self.speeds.now in
    let targets = static_targets self.bounds.now profile in
    let place : ℤ = c.in_ok-place.place in
    let next = c.piece-here.result.next in
    let reported = c.static_target.result in
    let is : reported ≡ static_target self.bounds.now place (profile place) =
    c.static_target.ensures.value ∙ ap (static_target self.bounds.now place) c.piece-here.ensures.value in
    let requested : AskTheSame (rest targets self.start) (listed reported ++ rest targets next) =
    requested_at (rest targets self.start) (rest targets (Some place)) (rest targets next) reported (static_target self.bounds.now place (profile place))
    (ap (rest targets) c.in_ok-place.was) is (piece_asks self.bounds.now profile place c.static_target.ensures.within next c.piece-here.ensures.next) in
    subst (λ (before : Left). AskTheSame before.targets (listed reported ++ rest targets next)) c.self.view_is requested
