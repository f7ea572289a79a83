use Rattle.std.proofs.Common.{◌≡◌, rules, arith, int_le, pos, sym, subst}
use Rattle.std.specs.List.Sorted.{IsPartitionedBy}
use Rattle.std.proofs.lemmas.Int.{ints}
use Rattle.std.proofs.lemmas.List.Sorted.{IsPartitionPoint-from_clause}
use Rattle.simulator.proofs.Passing.{parted}
use Rattle.simulator.proofs.track.Track.up_to.Goals as goal

pub returns : goal.returns
returns c =
    let bs = c.args.self.now.balises.items in
    let same : c.as_slice.result.now ≡ bs = c.as_slice.ensures.value in
    let point = IsPartitionPoint-from_clause (λ b. int_le (pos b.at) c.args.place) _ _ c.partition_point.ensures.partitioned
    (subst (λ l. IsPartitionedBy (λ b. int_le (pos b.at) c.args.place) l) (sym same) (parted bs c.args.place c.args.self.now.rises)) (λ a r q k. search rules) in
    let here = rw same at point in
    record {
      inside = rw same at c.partition_point.ensures.bound;
      before = λ k d a. let low = here.0 k d (omega arith) a in grind (arith, ints);
      following = λ k d a b. let high = here.1 k d a b in grind (arith, ints);
    }
