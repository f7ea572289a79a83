use Rattle.std.proofs.Common.{◌∷◌, sym, ◌∙◌}
use Rattle.braking.proofs.Approaching.{lowered_by_more}
use Rattle.speed_profile.proofs.Asking.{lowered_same}
use Rattle.speed_profile.proofs.speeds_ahead.lower_by_piece.Goals as goal

pub returns-in-Some-clause-requested : goal.returns-in-Some-clause-requested
returns-in-Some-clause-requested g c =
    let gradient = g.G.Profile.value in
    let old = c.args.approach.now in
    let left = c.next_piece.new.self.targets in
    lowered_by_more gradient c.in-Some.target left old c.lower.new.self c.lower.ensures
    ∙ sym (lowered_same gradient c.args.speeds.now.targets (c.in-Some.target ∷ left) old c.in-Some.ensures.requested)
