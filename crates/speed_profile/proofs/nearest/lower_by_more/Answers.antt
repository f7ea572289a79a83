use Rattle.std.proofs.Common.{[], ◌∷◌, ◌∙◌}
use Rattle.speed_profile.proofs.Held.{of_all, of_more, of_through, lowered_ahead}
use Rattle.speed_profile.proofs.nearest.lower_by_more.Goals as goal

pub returns-in-None : goal.returns-in-None
returns-in-None g c =
    let value = g.G.Profile.value in
    let now = c.args.approach.now in
    let first = c.args.first.now in
    let second = c.args.second.now in
    let all = c.args.others.now.targets in
    let left = c.next_to_brake_for.new.others.targets in
    c.lower_by_two.ensures
    ∙ lowered_ahead value c.args.speeds.now.targets (first ∷ second ∷ all) (first ∷ second ∷ []) now
    (of_more value first (second ∷ all) (second ∷ []) now (of_more value second all [] now
    (of_through value all left [] now c.in-None.ensures.requested (of_all value left [] now (c.next_to_brake_for.ensures.none c.in-None.is)))))

pub returns-in-Some : goal.returns-in-Some
returns-in-Some g c =
    let value = g.G.Profile.value in
    let now = c.args.approach.now in
    let first = c.args.first.now in
    let second = c.args.second.now in
    let all = c.args.others.now.targets in
    let left = c.in-Some.third ∷ c.next_to_brake_for.new.others.targets in
    c.lower_by_nearest.ensures
    ∙ lowered_ahead value c.args.speeds.now.targets (first ∷ second ∷ all) (first ∷ second ∷ left) now
    (of_more value first (second ∷ all) (second ∷ left) now (of_more value second all left now c.in-Some.ensures.requested))
