use Rattle.std.proofs.Common.{◌≡◌, ℤ, ◌+◌, ◌∷◌, drop, ap, sym, ◌∙◌, arith, rules}
use Rattle.std.specs.Prelude.{None}
use Rattle.std.specs.Int.{int_max}
use Rattle.std.proofs.lemmas.Int.{ints}
use Rattle.std.proofs.lemmas.List.{at_drop_all, drop_more}
use Rattle.units.proofs.Later.{max_is}
use Rattle.track_store.specs.declared.profile.Step.{Step}
use Rattle.track_store.specs.Facts.{passed, last_value}
use Rattle.track_store.specs.Segments.{value_of_segments, is_reached}
use Rattle.track_store.proofs.Segmenting.{one_step, unchanged_below, replaced_open, replaced_ended}
use Rattle.track_store.proofs.segments.hold_steps.Goals as goal

same_max : (a : ℤ) → a ≡ int_max a a
same_max a = grind (arith, ints)

pub loop-step-preserved : goal.loop-step-preserved
loop-step-preserved g c =
    let step = c.step-item.result in
    let rest = drop (c.loop-step.step-index + 1) c.args.steps.now in
    let first : c.max.result ≡ int_max c.args.start step.place = c.max.ensures ∙ max_is c.args.start step.place in
    let front : drop c.loop-step.step-index c.args.steps.now ≡ step ∷ rest =
    drop_more c.args.steps.now c.loop-step.step-index step c.loop-step-test.true ∙ ap (λ (first : Step _). first ∷ rest) (sym c.step-item.is) in (
      (λ place h. unchanged_below c.args.start c.max.result step.place place _ _ step.value first h (c.hold_from-in-loop-step.ensures.value place)
          ∙ c.loop-step.invariant.0 place h),
      (λ place h. one_step c.args.start c.max.result place _ _ _ step rest first h (c.hold_from-in-loop-step.ensures.value place)
          (ap (λ steps. last_value (value_of_segments c.loop-step.segments.items place) (passed place steps)) (sym front)
          ∙ c.loop-step.invariant.1 place h)),
      c.hold_from-in-loop-step.ensures.kept,
      omega arith,
      omega arith,
      search rules,
    )

pub returns-in-Some-clause-value : goal.returns-in-Some-clause-value
returns-in-Some-clause-value g c place =
    let first : c.max-in-Some.result ≡ int_max c.args.start c.in-Some.end = c.max-in-Some.ensures ∙ max_is c.args.start c.in-Some.end in
    replaced_ended (value_of_segments c.args.segments.now.items) c.args.start c.max-in-Some.result c.in-Some.end place c.args.steps.now
    (value_of_segments c.loop-step.segments.items place) _
    (λ h. c.loop-step.invariant.0 place h
    ∙ unchanged_below c.args.start c.args.start c.args.start place _ _ None (same_max c.args.start) h (c.hold_from.ensures.value place))
    (λ h. sym (at_drop_all (λ steps. last_value (value_of_segments c.loop-step.segments.items place) (passed place steps))
    c.args.steps.now c.loop-step.step-index c.loop-step-test.false) ∙ c.loop-step.invariant.1 place h)
    (c.in-Some.ensures place) first (c.hold_from-in-Some.ensures.value place)

pub returns-in_default-clause-value : goal.returns-in_default-clause-value
returns-in_default-clause-value g c place =
    replaced_open (value_of_segments c.args.segments.now.items) c.args.start place c.args.steps.now (value_of_segments c.loop-step.segments.items place)
    (λ h. c.loop-step.invariant.0 place h
    ∙ unchanged_below c.args.start c.args.start c.args.start place _ _ None (same_max c.args.start) h (c.hold_from.ensures.value place))
    (λ h. sym (at_drop_all (λ steps. last_value (value_of_segments c.loop-step.segments.items place) (passed place steps))
    c.args.steps.now c.loop-step.step-index c.loop-step-test.false) ∙ c.loop-step.invariant.1 place h)
    (c.first_end.ensures place ∙ ap (is_reached place) c.in_default.is)
