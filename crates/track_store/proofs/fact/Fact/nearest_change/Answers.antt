use Rattle.std.proofs.Common.{◌+◌, List, drop, sym, ◌∙◌}
use Rattle.std.proofs.lemmas.List.{at_drop_more, at_drop_all}
use Rattle.track_store.specs.declared.profile.Step.{Step}
use Rattle.track_store.specs.Changes.{nearer, nearest_step, nearest_in}
use Rattle.track_store.proofs.fact.Fact.nearest_change.Goals as goal

pub loop-step-preserved : goal.loop-step-preserved
loop-step-preserved g c =
    let place = c.args.place in
    let near = c.loop-step.nearest in
    let rest : List (Step _) = drop (c.loop-step.step-index + 1) c.deref-step-items.result.now in
    (λ i. nearest_step place (c.nearer_of-nearest-in-loop-step.ensures i) rest)
    ∙ (λ i. nearest_step place (nearer place near (c.step-item.is i).place) rest)
    ∙ sym (at_drop_more (nearest_step place near) c.deref-step-items.result.now c.loop-step.step-index c.step-item.result c.loop-step-test.true)
    ∙ c.loop-step.invariant

pub returns : goal.returns
returns g c =
    let place = c.args.place in
    let fact = c.self.inside in
    sym (at_drop_all (nearest_step place c.loop-step.nearest) c.deref-step-items.result.now c.loop-step.step-index c.loop-step-test.false)
    ∙ c.loop-step.invariant
    ∙ (λ i. nearest_step place c.nearer_of-nearest-2.result (c.deref-step-items.ensures.value i))
    ∙ (λ i. nearest_step place (c.nearer_of-nearest-2.ensures i) fact.steps.items)
    ∙ (λ i. nearest_step place (nearer place (c.nearer_of-nearest.ensures i) fact.mark) fact.steps.items)
    ∙ (λ i. nearest_in place c.args.nearest (c.self.view_is i))
