use Rattle.std.proofs.Common.{ap, ◌∙◌, arith}
use Rattle.track_store.specs.Segments.{Segmented, value_kept, size_of}
use Rattle.track_store.specs.Facts.{from_mark}
use Rattle.track_store.proofs.segment_store.SegmentStoreProfileStore.drop_behind.Goals as goal

pub drop_below-requires : goal.drop_below-requires
drop_below-requires g c = c.self.invariant.0

pub invariant_of-self : goal.invariant_of-self
invariant_of-self g c = (c.drop_below.ensures.kept, omega (arith, c.drop_below.ensures.len, c.drop_below.ensures.capacity, c.self.invariant.1))

pub returns-clause-value : goal.returns-clause-value
returns-clause-value g c there =
    c.drop_below.ensures.value there ∙ ap (λ store. from_mark c.args.place (value_kept store) there) c.self.view_is

pub returns-clause-space : goal.returns-clause-space
returns-clause-space g c = ap (λ (store : Segmented _). store.space) c.self.view_is

pub returns-clause-size : goal.returns-clause-size
returns-clause-size g c = omega (arith, c.drop_below.ensures.len, ap size_of c.self.view_is)
