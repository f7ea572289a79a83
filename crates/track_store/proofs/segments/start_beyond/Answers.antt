use Rattle.std.proofs.Common.{◌≡◌, ◌<◌, ◌≤◌, ltb-true, ltb-false, length, get_or, ap, sym, ◌∙◌, arith}
use Rattle.std.specs.Prelude.{None, Some}
use Rattle.track_store.specs.declared.segments.Segment.{Segment}
use Rattle.track_store.proofs.Searching.{first_among, none_among}
use Rattle.track_store.proofs.segments.start_beyond.Goals as goal

pub returns-in_err-next : goal.returns-in_err-next
returns-in_err-next g c place s =
    let all : length c.args.segments.now ≤ c.args.count = ltb-false _ _ (sym c.in_err-next.ensures.lookup.0) in
    let d : Segment _ = record { start = place; value = None } in
    c.from_residual.ensures
    ∙ sym (none_among place c.args.segments.now d (λ k a. s.1.0 k d (omega arith) (omega (arith, all, a))))

pub returns : goal.returns
returns g c place s =
    let d : Segment _ = c.in_ok-next.next.now in
    let inside : c.args.count < length c.args.segments.now = ltb-true _ _ (sym c.in_ok-next.ensures.lookup.0) in
    let found : d ≡ get_or c.args.segments.now c.args.count d = c.in_ok-next.ensures.lookup.1 in
    ap (λ (x : Segment _). Some x.start) found
    ∙ sym (first_among place c.args.segments.now c.args.count d inside
    (λ k a. s.1.0 k d (omega arith) a)
    (s.1.1 c.args.count d (omega arith) inside))
