use Rattle.std.proofs.Common.{ap, ◌∙◌, arith}
use Rattle.track_store.specs.Segments.{Segmented, value_kept, value_of_segments}
use Rattle.track_store.specs.Facts.{replaced}
use Rattle.track_store.proofs.segment_store.SegmentStoreProfileStore.replace_from.Goals as goal

pub invariant_of-self : goal.invariant_of-self
invariant_of-self g c = (
  rw c.reserve.ensures.items c.self.invariant.0,
  omega (arith, c.reserve.ensures.len, c.reserve.ensures.capacity, c.self.invariant.1),
)

pub hold_steps-requires-clause-kept : goal.hold_steps-requires-clause-kept
hold_steps-requires-clause-kept g c = rw c.reserve.ensures.items c.self.invariant.0

pub returns-clause-ok : goal.returns-clause-ok
returns-clause-ok g c place =
    c.hold_steps.ensures.value place
    ∙ ap (λ segments. replaced (value_of_segments segments) c.args.start c.args.steps.now place) c.reserve.ensures.items
    ∙ ap (λ store. replaced (value_kept store) c.args.start c.args.steps.now place) c.self.view_is

pub returns-clause-space : goal.returns-clause-space
returns-clause-space g c = ap (λ (store : Segmented _). store.space) c.self.view_is
