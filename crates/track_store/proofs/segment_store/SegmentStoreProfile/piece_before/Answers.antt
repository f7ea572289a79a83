use Rattle.std.proofs.Common.{sym, ap, ◌∙◌}
use Rattle.track_store.specs.Segments.{value_kept, value_of_segments}
use Rattle.track_store.proofs.segment_store.SegmentStoreProfile.piece_before.Goals as goal

pub piece_up_to-requires-clause-rising : goal.piece_up_to-requires-clause-rising
piece_up_to-requires-clause-rising g c = rw c.deref.ensures.value c.self.invariant.0.0

pub returns-clause-within : goal.returns-clause-within
returns-clause-within g c = c.piece_up_to.ensures.within

pub returns-clause-before : goal.returns-clause-before
returns-clause-before g c = c.piece_up_to.ensures.before

pub returns-clause-value : goal.returns-clause-value
returns-clause-value g c place from to =
    ap (λ store. value_kept store place) (sym c.self.view_is)
    ∙ ap (λ segments. value_of_segments segments place) (sym c.deref.ensures.value)
    ∙ c.piece_up_to.ensures.value place from to
