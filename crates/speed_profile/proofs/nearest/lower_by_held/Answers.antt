use Rattle.std.proofs.Common.{List, ◌∷◌, ◌++◌, drop, ap, ◌∙◌}
use Rattle.braking.specs.declared.target.Target.{Target}
use Rattle.braking.specs.Approaches.{lowered_by}
use Rattle.speed_profile.specs.Targets.{held}
use Rattle.speed_profile.proofs.Asking.{same, through, joined, turned, lowered_same, lowered_before}
use Rattle.speed_profile.proofs.Held.{lowered_among}
use Rattle.speed_profile.proofs.nearest.lower_by_held.Goals as goal

pub returns : goal.returns
returns g c =
    let value = g.G.Profile.value in
    let old = c.args.approach.now in
    let speeds = c.args.speeds.now.targets in
    let left = c.args.others.now.targets in
    let two = c.args.third.now ∷ left in
    let three = c.args.second.now ∷ two in
    let all = c.args.first.now ∷ three in
    let some = held c.hold_left.new.nearest in
    let deciding = held (drop c.gather_deciding-first.result c.gather_deciding-first.new.nearest) in
    let taken = c.take-3.ensures.requested left
    ∙ lowered_among value (held c.take-2.new.nearest) two left c.args.third.now c.take-2.new.approach (same two)
    ∙ c.take-2.ensures.requested two
    ∙ lowered_among value (held c.take.new.nearest) three two c.args.second.now c.take.new.approach (same three)
    ∙ c.take.ensures.requested three
    ∙ ap (λ (places : List Target). lowered_by (value old.gradient) (c.args.first.now ∷ (places ++ three)) old) c.requires.none in
    c.lower_each.ensures
    ∙ lowered_same value (speeds ++ deciding) (some ++ speeds) c.hold_left.new.approach
    (through (speeds ++ deciding) (deciding ++ speeds) (some ++ speeds) (turned speeds deciding)
    (joined deciding speeds some speeds c.gather_deciding-first.ensures.requested (same speeds)))
    ∙ lowered_before value some all speeds old c.hold_left.new.approach (c.hold_left.ensures ∙ taken)
    ∙ lowered_same value (all ++ speeds) (speeds ++ all) old (turned all speeds)
