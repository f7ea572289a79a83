use Rattle.std.proofs.Common.{◌≤◌, sym, ap, subst, ◌∙◌, arith}
use Rattle.track_store.specs.Segments.{Segmented, value_kept}
use Rattle.track_store.specs.Facts.{replaced}
use Rattle.track_store.proofs.segment_store.SegmentStoreProfileStore.replace_reserved.Goals as goal

pub overflow_sub-self : goal.overflow_sub-self
overflow_sub-self g c = subst (λ (store : Segmented _). 1 ≤ store.space) (sym c.self.view_is) c.requires.space

pub hold_steps-requires-clause-kept : goal.hold_steps-requires-clause-kept
hold_steps-requires-clause-kept g c = c.self.invariant.0

pub hold_steps-requires-clause-space : goal.hold_steps-requires-clause-space
hold_steps-requires-clause-space g c =
    omega (arith, c.self.invariant.1, c.requires, ap (λ (store : Segmented _). store.space) c.self.view_is)

pub invariant_of-self : goal.invariant_of-self
invariant_of-self g c = (
  c.hold_steps.ensures.kept,
  omega (arith, c.hold_steps.ensures.len, c.hold_steps.ensures.capacity, c.self.invariant.1, c.requires, ap (λ (store : Segmented _). store.space) c.self.view_is),
)

pub returns-clause-value : goal.returns-clause-value
returns-clause-value g c place =
    c.hold_steps.ensures.value place ∙ ap (λ store. replaced (value_kept store) c.args.start c.args.steps.now place) c.self.view_is

pub returns-clause-space : goal.returns-clause-space
returns-clause-space g c = omega (arith, c.requires.space, ap (λ (store : Segmented _). store.space) c.self.view_is)
