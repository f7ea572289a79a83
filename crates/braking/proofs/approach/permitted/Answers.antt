use Rattle.std.proofs.Common.{◌≡◌, ◌+◌, List, ◌∷◌, drop, ap, sym, ◌∙◌}
use Rattle.std.proofs.lemmas.List.{at_drop_all, drop_more}
use Rattle.braking.specs.declared.target.Target.{Target}
use Rattle.braking.specs.Approaches.{lowered_by}
use Rattle.braking.proofs.Approaching.{lowered_by_none, lowered_by_more, lowered_from, same_speed}
use Rattle.braking.proofs.approach.permitted.Goals as goal

pub loop-target-preserved : goal.loop-target-preserved
loop-target-preserved g c =
    let value = g.P.Profile.value in
    let target : Target = c.target-item.result in
    let rest : List Target = drop (c.loop-target.target-index + 1) c.args.targets.now in
    let left : drop c.loop-target.target-index c.args.targets.now ≡ target ∷ rest =
    drop_more c.args.targets.now c.loop-target.target-index target c.loop-target-test.true ∙ ap (λ (first : Target). first ∷ rest) (sym c.target-item.is) in
    lowered_by_more value target rest c.loop-target.approach c.lower.new.self c.lower.ensures
    ∙ sym (ap (λ (targets : List Target). lowered_by (value c.loop-target.approach.gradient) targets c.loop-target.approach) left)
    ∙ c.loop-target.invariant

pub returns : goal.returns
returns g c =
    let value = g.P.Profile.value in
    let targets = c.args.targets.now in
    let now = c.loop-target.approach in
    c.speed.ensures
    ∙ same_speed value now _
    (sym (lowered_by_none value now)
    ∙ sym (at_drop_all (λ (ts : List Target). lowered_by (value now.gradient) ts now) targets c.loop-target.target-index c.loop-target-test.false)
    ∙ c.loop-target.invariant
    ∙ lowered_from value targets c.new-approach.result _ c.new-approach.ensures)
