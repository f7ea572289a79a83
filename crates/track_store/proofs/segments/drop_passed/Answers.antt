use Rattle.std.proofs.Common.{ap, sym, subst, ◌∙◌}
use Rattle.track_store.specs.Facts.{from_mark}
use Rattle.track_store.specs.Segments.{value_of_segments, IsStarted, IsKeptAfterFirst, is_first_passed}
use Rattle.track_store.proofs.Passing.{value_of_left, kept_others, none_left}
use Rattle.track_store.proofs.segments.drop_passed.Goals as goal

pub returns-then-is_first_passed-clause-value : goal.returns-then-is_first_passed-clause-value
returns-then-is_first_passed-clause-value g c place =
    let mark = c.args.mark in
    let started = subst (λ all. IsStarted mark all c.started.result) c.deref-then-is_first_passed.ensures.value c.started.ensures in
    ap (λ left. from_mark mark (value_of_segments left) place) c.drop_front.ensures.items
    ∙ value_of_left mark c.args.segments.now.items _ _ c.saturating_sub-passed.ensures started place

pub returns-then-is_first_passed-clause-kept : goal.returns-then-is_first_passed-clause-kept
returns-then-is_first_passed-clause-kept g c =
    subst IsKeptAfterFirst (sym c.drop_front.ensures.items) (kept_others c.args.segments.now.items c.saturating_sub-passed.result c.requires)

pub returns-then-is_first_passed-clause-none : goal.returns-then-is_first_passed-clause-none
returns-then-is_first_passed-clause-none g c =
    let mark = c.args.mark in
    let started = subst (λ all. IsStarted mark all c.started.result) c.deref-then-is_first_passed.ensures.value c.started.ensures in
    ap (is_first_passed mark) c.drop_front.ensures.items
    ∙ none_left mark c.args.segments.now.items _ _ c.saturating_sub-passed.ensures started
