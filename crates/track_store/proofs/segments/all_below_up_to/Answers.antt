use Rattle.std.proofs.Common.{◌≡◌, ◌-◌, ◌<◌, ◌≤◌, ◌<ℤ◌, ltb-true, length, get_or, ap, sym, arith}
use Rattle.std.proofs.lemmas.Int.{ints}
use Rattle.track_store.specs.declared.segments.Segment.{Segment}
use Rattle.track_store.proofs.Searching.{in_order}
use Rattle.track_store.proofs.segments.all_below_up_to.Goals as goal

pub returns-in-Some-get : goal.returns-in-Some-get
returns-in-Some-get g c below =
    let segments = c.args.segments.now in
    let i = c.in-Some.last in
    let last : Segment _ = c.in-Some-get.last.now in
    let some : (1 ≤ c.args.count) × (i ≡ c.args.count - 1) = c.in-Some.ensures in
    let inside : i < length segments = ltb-true _ _ (sym c.in-Some-get.ensures.lookup.0) in
    let is : last.start ≡ (get_or segments i last).start = ap (λ (x : Segment _). x.start) c.in-Some-get.ensures.lookup.1 in
    let before : last.start <ℤ c.args.place = grind (arith, ints) in (
      omega (arith, inside, some.0, some.1),
      λ k d h a. omega (arith, ints, before, is, in_order segments k i d last c.requires (omega (arith, a, some.0, some.1)) inside),
    )
