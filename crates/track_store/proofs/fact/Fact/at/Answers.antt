use Rattle.std.proofs.Common.{◌≡◌, ◌+◌, ◌≤ℤ◌, ◌<ℤ◌, cond, List, ◌∷◌, drop, sym, ◌∙◌, arith}
use Rattle.std.specs.Prelude.{None}
use Rattle.std.proofs.lemmas.Int.{ints}
use Rattle.std.proofs.lemmas.List.{at_drop_more, at_drop_all}
use Rattle.track_store.specs.declared.profile.Step.{Step}
use Rattle.track_store.specs.Facts.{given_by, from_mark}
use Rattle.track_store.proofs.Reading.{given_from, given_more, given_none, given_past}
use Rattle.track_store.proofs.Segmenting.{below, not_below}
use Rattle.track_store.proofs.fact.Fact.at.Goals.{then-le+in_ok-step, else-le}
use Rattle.track_store.proofs.fact.Fact.at.Goals as goal

pub returns-then-lt : goal.returns-then-lt
returns-then-lt g c =
    let fact = c.self.inside in
    let before : c.args.place <ℤ fact.mark = grind (arith, ints) in
    (λ i. cond (sym (below c.args.place fact.mark before) i) None (given_by fact.steps.items c.args.place))
    ∙ (λ i. from_mark (c.self.view_is i).mark (given_by (c.self.view_is i).steps) c.args.place)

pub returns-in_err-step : goal.returns-in_err-step
returns-in_err-step g c =
    let place = c.args.place in
    let fact = c.self.inside in
    let step : Step _ = c.step-item.result in
    let rest : List (Step _) = drop (c.loop-step.step-index + 1) c.deref-step-items.result.now in
    let here : step.place ≤ℤ place = grind (arith, ints) in
    let kept : fact.mark ≤ℤ place = grind (arith, ints) in
    c.from_residual.ensures
    ∙ sym (given_none place c.loop-step.value step rest (not_below place step.place here) c.in_err-step.was)
    ∙ (λ i. given_from place c.loop-step.value (c.step-item.is i ∷ rest))
    ∙ sym (at_drop_more (given_from place c.loop-step.value) c.deref-step-items.result.now c.loop-step.step-index step c.loop-step-test.true)
    ∙ c.loop-step.invariant
    ∙ (λ i. given_by (c.deref-step-items.ensures.value i) place)
    ∙ (λ i. cond (sym (not_below place fact.mark kept) i) None (given_by fact.steps.items place))
    ∙ (λ i. from_mark (c.self.view_is i).mark (given_by (c.self.view_is i).steps) place)

pub loop-step-preserved : goal.loop-step-preserved
loop-step-preserved g c =
    let place = c.args.place in
    let value = c.loop-step.value in
    let step : Step _ = c.step-item.result in
    let rest : List (Step _) = drop (c.loop-step.step-index + 1) c.deref-step-items.result.now in
    let turn : given_from place c.if-le.value rest ≡ given_from place value (step ∷ rest) = elim c.if-le.branch [
      | then-le+in_ok-step w ↦ (let here : step.place ≤ℤ place = grind (arith, ints, w.if-le.true) in
          (λ i. given_from place (w.value-is i) rest)
          ∙ sym (given_more place value step rest w.in_ok-step.field-0 (not_below place step.place here) w.in_ok-step.was))
      | else-le w ↦ (let ahead : place <ℤ step.place = grind (arith, ints, w.if-le.false) in
          (λ i. given_from place (w.value-is i) rest) ∙ sym (given_past place value step rest (below place step.place ahead)))
    ] in
    turn
    ∙ (λ i. given_from place value (c.step-item.is i ∷ rest))
    ∙ sym (at_drop_more (given_from place value) c.deref-step-items.result.now c.loop-step.step-index step c.loop-step-test.true)
    ∙ c.loop-step.invariant

pub returns : goal.returns
returns g c =
    let place = c.args.place in
    let fact = c.self.inside in
    let kept : fact.mark ≤ℤ place = grind (arith, ints) in
    sym (at_drop_all (given_from place c.loop-step.value) c.deref-step-items.result.now c.loop-step.step-index c.loop-step-test.false)
    ∙ c.loop-step.invariant
    ∙ (λ i. given_by (c.deref-step-items.ensures.value i) place)
    ∙ (λ i. cond (sym (not_below place fact.mark kept) i) None (given_by fact.steps.items place))
    ∙ (λ i. from_mark (c.self.view_is i).mark (given_by (c.self.view_is i).steps) place)
