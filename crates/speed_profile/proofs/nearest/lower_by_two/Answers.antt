use Rattle.std.proofs.Common.{[], ◌∷◌, ◌++◌, sym, ◌∙◌}
use Rattle.speed_profile.proofs.Asking.{same, joined, moved, nothing_more, lowered_same}
use Rattle.speed_profile.proofs.nearest.lower_by_two.Goals as goal

pub returns-then-le : goal.returns-then-le
returns-then-le g c =
    let left = c.lower_up_to-then-le.new.speeds.targets in
    sym (lowered_same g.G.Profile.value (left ++ []) left c.lower_up_to-then-le.new.approach (nothing_more left))
    ∙ c.lower_up_to-then-le.ensures []
    ∙ c.lower_up_to.ensures (c.args.other.now ∷ [])

pub returns-else-le : goal.returns-else-le
returns-else-le g c =
    let value = g.G.Profile.value in
    let speeds = c.args.speeds.now.targets in
    let one = c.args.one.now in
    let other = c.args.other.now in
    let left = c.lower_up_to-else-le-2.new.speeds.targets in
    sym (lowered_same value (left ++ []) left c.lower_up_to-else-le-2.new.approach (nothing_more left))
    ∙ c.lower_up_to-else-le-2.ensures []
    ∙ c.lower_up_to-else-le.ensures (one ∷ [])
    ∙ lowered_same value (speeds ++ (other ∷ one ∷ [])) (speeds ++ (one ∷ other ∷ [])) c.args.approach.now
    (joined speeds (other ∷ one ∷ []) speeds (one ∷ other ∷ []) (same speeds) (moved one (other ∷ []) []))
