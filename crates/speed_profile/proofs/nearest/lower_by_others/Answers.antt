use Rattle.std.proofs.Common.{[], ◌∷◌, ◌++◌, sym, ◌∙◌}
use Rattle.speed_profile.proofs.Asking.{nothing_more, lowered_same}
use Rattle.speed_profile.proofs.Held.{of_all, of_more, of_through, of_single, lowered_ahead}
use Rattle.speed_profile.proofs.nearest.lower_by_others.Goals as goal

pub returns-in_default : goal.returns-in_default
returns-in_default g c =
    let value = g.G.Profile.value in
    let now = c.args.approach.now in
    let speeds = c.args.speeds.now.targets in
    let all = c.args.others.now.targets in
    let left = c.next_to_brake_for.new.others.targets in
    sym (lowered_same value (speeds ++ []) speeds now (nothing_more speeds))
    ∙ lowered_ahead value speeds all [] now
    (of_through value all left [] now c.in_default.ensures.requested (of_all value left [] now (c.next_to_brake_for.ensures.none c.in_default.is)))

pub returns-in-None : goal.returns-in-None
returns-in-None g c =
    let value = g.G.Profile.value in
    let now = c.args.approach.now in
    let left = c.lower_up_to.new.speeds.targets in
    let all = c.args.others.now.targets in
    sym (lowered_same value (left ++ []) left c.lower_up_to.new.approach (nothing_more left))
    ∙ c.lower_up_to.ensures []
    ∙ lowered_ahead value c.args.speeds.now.targets all (c.in-Some.first ∷ []) now
    (of_single value c.in-Some.first all c.next_to_brake_for.new.others.targets c.next_to_brake_for-2.new.others.targets now
    c.in-Some.ensures.requested c.in-None.ensures.requested (c.next_to_brake_for-2.ensures.none c.in-None.is))

pub returns-in-Some-next_to_brake_for : goal.returns-in-Some-next_to_brake_for
returns-in-Some-next_to_brake_for g c =
    let value = g.G.Profile.value in
    let now = c.args.approach.now in
    let first = c.in-Some.first in
    let all = c.args.others.now.targets in
    let beyond = c.next_to_brake_for.new.others.targets in
    let left = c.in-Some-next_to_brake_for.second ∷ c.next_to_brake_for-2.new.others.targets in
    c.lower_by_more.ensures
    ∙ lowered_ahead value c.args.speeds.now.targets all (first ∷ left) now
    (of_through value all (first ∷ beyond) (first ∷ left) now c.in-Some.ensures.requested
    (of_more value first beyond left now c.in-Some-next_to_brake_for.ensures.requested))
