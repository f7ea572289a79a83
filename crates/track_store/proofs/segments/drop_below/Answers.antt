use Rattle.std.proofs.Common.{◌≡◌, length, ap, sym, subst, ◌∙◌, arith}
use Rattle.track_store.specs.Segments.{value_of_segments, IsKeptAfterFirst, first_cut}
use Rattle.track_store.proofs.Apart.{kept_after_first, kept_first_cut, value_of_first_cut}
use Rattle.track_store.proofs.Forgetting.{taken_front}
use Rattle.track_store.proofs.segments.drop_below.Goals as goal

pub drop_passed-requires : goal.drop_passed-requires
drop_passed-requires g c = kept_after_first c.args.segments.now.items c.requires

pub drop_gap-requires : goal.drop_gap-requires
drop_gap-requires g c =
    let mark = c.args.mark in
    let passed = c.drop_passed.new.segments in
    let all : length c.cut_first.new.segments ≡ passed.len = omega arith in
    let cut = taken_front c.cut_first.new.segments _ passed.len all ∙ c.cut_first.ensures ∙ ap (first_cut mark) c.deref_mut.ensures.value in
    subst IsKeptAfterFirst (sym cut) (kept_first_cut mark passed.items c.drop_passed.ensures.none c.drop_passed.ensures.kept)

pub returns-clause-value : goal.returns-clause-value
returns-clause-value g c place =
    let mark = c.args.mark in
    let passed = c.drop_passed.new.segments in
    let all : length c.cut_first.new.segments ≡ passed.len = omega arith in
    let cut = taken_front c.cut_first.new.segments _ passed.len all ∙ c.cut_first.ensures ∙ ap (first_cut mark) c.deref_mut.ensures.value in
    c.drop_gap.ensures.value place
    ∙ ap (λ segments. value_of_segments segments place) cut
    ∙ value_of_first_cut mark passed.items c.drop_passed.ensures.none c.drop_passed.ensures.kept place
    ∙ c.drop_passed.ensures.value place
