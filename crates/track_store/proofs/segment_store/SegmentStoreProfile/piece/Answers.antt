use Rattle.std.proofs.Common.{ap, ◌∙◌}
use Rattle.track_store.specs.Segments.{next_among, Segmented}
use Rattle.track_store.proofs.Segmenting.{lasts_kept}
use Rattle.track_store.proofs.segment_store.SegmentStoreProfile.piece.Goals as goal

pub returns-clause-next : goal.returns-clause-next
returns-clause-next g c =
    lasts_kept c.args.place c.self.inside.segments.items c.args.self.now.segments c.piece_at.result.next (ap (λ (k : Segmented _). k.segments) c.self.view_is)
    c.self.invariant.0.0 (c.piece_at.ensures.next ∙ ap (next_among c.args.place) c.deref.ensures.value)
