use Rattle.std.proofs.Common.{arith, rules}
use Rattle.std.specs.Prelude.{int_lt}
use Rattle.std.proofs.lemmas.Int.{ints}
use Rattle.std.proofs.lemmas.List.Sorted.{IsPartitionPoint-from_clause}
use Rattle.track_store.proofs.Searching.{parted_below, below_front}
use Rattle.track_store.proofs.segments.started_below.Goals as goal

pub returns : goal.returns
returns g c =
    let point = IsPartitionPoint-from_clause (λ s. int_lt s.start c.args.place) _ _ c.partition_point.ensures.partitioned
    (parted_below c.args.place c.args.segments.now c.requires) (λ a r q k. search rules) in
    record {
      started = (search rules, (λ k d a b. grind (arith, ints, point.0 k d a b), λ k d a b. grind (arith, ints, point.1 k d a b)));
      front = below_front c.args.place c.args.segments.now c.partition_point.result (search rules) (λ k d a. point.0 k d (omega arith) a)
          (λ k d a h. point.1 k d a h);
    }
