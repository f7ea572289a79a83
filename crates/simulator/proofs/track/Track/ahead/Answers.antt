use Rattle.std.proofs.Common.{arith, sym}
use Rattle.std.proofs.lemmas.Int.{ints}
use Rattle.std.proofs.lemmas.List.Elements.{All-same}
use Rattle.simulator.proofs.Passing.{rises, passed-between, all_ahead, IsAhead}
use Rattle.simulator.proofs.track.Track.ahead.Goals as goal

pub slice_bounds-result-count : goal.slice_bounds-result-count
slice_bounds-result-count c = rises c.up_to-first.ensures c.up_to-end.ensures (omega (arith, ints, c.from.ensures))

pub slice_bounds-result-start : goal.slice_bounds-result-start
slice_bounds-result-start c = rises c.up_to-first.ensures c.up_to-end.ensures (omega (arith, ints, c.from.ensures))

pub returns-clause-exact : goal.returns-clause-exact
returns-clause-exact c =
    rw c.deref.ensures.value
    (sym (passed-between c.args.from c.args.cm c.up_to-first.ensures c.up_to-end.ensures (omega (arith, ints)) (omega (arith, ints, c.from.ensures)) c.args.self.now.rises))

pub returns-clause-near : goal.returns-clause-near
returns-clause-near c =
    let bs = c.args.self.now.balises.items in
    let exact = passed-between c.args.from c.args.cm c.up_to-first.ensures c.up_to-end.ensures (omega (arith, ints)) (omega (arith, ints, c.from.ensures)) c.args.self.now.rises in
    rw c.deref.ensures.value (All-same (IsAhead c.args.from c.args.cm) _ _ (sym exact) (all_ahead bs c.args.from c.args.cm c.args.self.now.rises))
