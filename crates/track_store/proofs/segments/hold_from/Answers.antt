use Rattle.std.proofs.Common.{◌≡◌, ◌≢◌, true, false, [], ◌∷◌, ◌++◌, ap, sym, subst, ◌∙◌, rules}
use Rattle.std.specs.Prelude.{int_lt, filter, None}
use Rattle.track_store.specs.declared.segments.Segment.{Segment}
use Rattle.track_store.specs.Segments.{value_of_segments, value_at_end, IsKept}
use Rattle.track_store.proofs.Segmenting.{value_of_cut, value_of_front}
use Rattle.track_store.proofs.Apart.{kept_cut, kept_front}
use Rattle.track_store.proofs.segments.hold_from.Goals as goal

pub returns-then-not-is_same-clause-value : goal.returns-then-not-is_same-clause-value
returns-then-not-is_same-clause-value g c there =
    ap (λ segments. value_of_segments segments there)
    (c.push_reserved.ensures.items
    ∙ ap (λ segments. segments ++ record { start = c.args.place; value = c.args.value } ∷ []) c.drop_from.ensures.items)
    ∙ value_of_cut c.args.place c.args.value c.args.segments.now.items there

pub returns-then-not-is_same-clause-kept : goal.returns-then-not-is_same-clause-kept
returns-then-not-is_same-clause-kept g c =
    let front = filter (λ (s : Segment _). int_lt s.start c.args.place) c.args.segments.now.items in
    let retained : c.drop_from.new.segments.items ≡ front = c.drop_from.ensures.items in
    let beyond : c.value_at_end.result ≡ value_at_end None front =
    c.value_at_end.ensures ∙ ap (value_at_end None) (c.deref.ensures.value ∙ retained) in
    let other : value_at_end None front ≢ c.args.value =
    λ same. (let k : true ≡ false = sym (c.is_same.ensures.1 (beyond ∙ same)) ∙ c.if-not-is_same.true in cc) in
    subst IsKept
    (sym (c.push_reserved.ensures.items ∙ ap (λ segments. segments ++ record { start = c.args.place; value = c.args.value } ∷ []) retained))
    (kept_cut c.args.place c.args.value c.args.segments.now.items c.requires.kept other)

pub returns-else-not-is_same-clause-value : goal.returns-else-not-is_same-clause-value
returns-else-not-is_same-clause-value g c there =
    let retained = c.drop_from.ensures.items in
    let same : c.value_at_end.result ≡ c.args.value = c.is_same.ensures.0 (search rules) in
    ap (λ segments. value_of_segments segments there) retained
    ∙ value_of_front c.args.place c.args.value c.args.segments.now.items there
    (ap (value_at_end None) (sym (c.deref.ensures.value ∙ retained)) ∙ sym c.value_at_end.ensures ∙ same)

pub returns-else-not-is_same-clause-kept : goal.returns-else-not-is_same-clause-kept
returns-else-not-is_same-clause-kept g c =
    let retained = c.drop_from.ensures.items in
    subst IsKept (sym retained) (kept_front c.args.place c.args.segments.now.items c.requires.kept)
