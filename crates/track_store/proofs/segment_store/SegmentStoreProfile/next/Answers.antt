use Rattle.std.proofs.Common.{ap, ◌∙◌}
use Rattle.track_store.specs.Segments.{next_among, Segmented}
use Rattle.track_store.proofs.Segmenting.{lasts_kept}
use Rattle.track_store.proofs.segment_store.SegmentStoreProfile.next.Goals as goal

pub returns : goal.returns
returns g c =
    lasts_kept c.args.place c.self.inside.segments.items c.args.self.now.segments c.next_start.result (ap (λ (k : Segmented _). k.segments) c.self.view_is)
    c.self.invariant.0.0 (c.next_start.ensures ∙ ap (next_among c.args.place) c.deref.ensures.value)
