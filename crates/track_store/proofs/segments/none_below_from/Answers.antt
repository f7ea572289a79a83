use Rattle.std.proofs.Common.{◌≡◌, ◌≤ℤ◌, get_or, ap, arith}
use Rattle.std.proofs.lemmas.Int.{ints}
use Rattle.track_store.specs.declared.segments.Segment.{Segment}
use Rattle.track_store.proofs.Searching.{in_order}
use Rattle.track_store.proofs.segments.none_below_from.Goals as goal

pub returns-in-Some : goal.returns-in-Some
returns-in-Some g c ahead =
    let segments = c.args.segments.now in
    let first : Segment _ = c.in-Some.first.now in
    let is : first.start ≡ (get_or segments c.args.index first).start = ap (λ (x : Segment _). x.start) c.in-Some.ensures.lookup.1 in
    let here : c.args.place ≤ℤ first.start = grind (arith, ints) in
    λ k d a h. omega (arith, ints, here, is, in_order segments c.args.index k first d c.requires a h)
