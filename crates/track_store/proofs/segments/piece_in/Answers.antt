use Rattle.std.proofs.Common.{◌≡◌, ◌+◌, ◌<◌, ◌≤◌, ◌≤ℤ◌, ◌<ℤ◌, ltb-true, ltb-false, length, get_or, ap, sym, ◌∙◌, arith}
use Rattle.std.specs.Prelude.{None, Some}
use Rattle.std.proofs.lemmas.Int.{ints}
use Rattle.track_store.specs.declared.segments.Segment.{Segment}
use Rattle.track_store.proofs.Searching.{in_order, last_among, first_among, none_among}
use Rattle.track_store.proofs.segments.piece_in.Goals as goal

pub returns-in-Some : goal.returns-in-Some
returns-in-Some g c =
    let segments = c.args.segments.now in
    let d : Segment _ = c.in_ok-segment.segment.now in
    let e : Segment _ = c.in-Some.beyond.now in
    let i = c.args.index in
    let inside : i < length segments = ltb-true _ _ (sym c.in_ok-segment.ensures.lookup.0) in
    let inside_after : i + 1 < length segments = ltb-true _ _ (sym c.in-Some.ensures.lookup.0) in
    let start : d.start ≡ (get_or segments i d).start = ap (λ (x : Segment _). x.start) c.in_ok-segment.ensures.lookup.1 in
    let end : e.start ≡ (get_or segments (i + 1) e).start = ap (λ (x : Segment _). x.start) c.in-Some.ensures.lookup.1 in
    let here : d.start ≤ℤ c.args.place = grind (arith, ints) in
    let ahead : c.args.place <ℤ e.start = grind (arith, ints) in (
      ap (λ (x : Segment _). x.value) c.in_ok-segment.ensures.lookup.1
          ∙ sym (last_among None c.args.place segments i d inside
          (λ k a. omega (arith, ints, here, start, in_order segments k i d d c.requires a inside))
          (λ k a b. omega (arith, ints, ahead, end, in_order segments (i + 1) k e d c.requires (omega (arith, a)) b))),
      ap (λ (x : Segment _). Some x.start) c.in-Some.ensures.lookup.1
          ∙ sym (first_among c.args.place segments (i + 1) e inside_after
          (λ k a. omega (arith, ints, here, start, in_order segments k i e d c.requires (omega (arith, a)) inside))
          (omega (arith, ints, ahead, end))),
    )

pub returns-in-None : goal.returns-in-None
returns-in-None g c =
    let segments = c.args.segments.now in
    let d : Segment _ = c.in_ok-segment.segment.now in
    let i = c.args.index in
    let inside : i < length segments = ltb-true _ _ (sym c.in_ok-segment.ensures.lookup.0) in
    let all : length segments ≤ i + 1 = ltb-false _ _ (sym c.in-None.ensures.lookup.0) in
    let start : d.start ≡ (get_or segments i d).start = ap (λ (x : Segment _). x.start) c.in_ok-segment.ensures.lookup.1 in
    let here : d.start ≤ℤ c.args.place = grind (arith, ints) in (
      ap (λ (x : Segment _). x.value) c.in_ok-segment.ensures.lookup.1
          ∙ sym (last_among None c.args.place segments i d inside
          (λ k a. omega (arith, ints, here, start, in_order segments k i d d c.requires a inside))
          (λ k a b. absurd (omega (arith, all, a, b)))),
      sym (none_among c.args.place segments d
          (λ k a. omega (arith, ints, here, start, in_order segments k i d d c.requires (omega (arith, all, a)) inside))),
    )
