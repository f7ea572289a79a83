use Rattle.std.proofs.Common.{arith, rules}
use Rattle.std.specs.Prelude.{int_lt, not}
use Rattle.std.proofs.lemmas.Int.{ints}
use Rattle.std.proofs.lemmas.List.Sorted.{IsPartitionPoint-from_clause}
use Rattle.track_store.proofs.Searching.{parted}
use Rattle.track_store.proofs.segments.started.Goals as goal

pub returns : goal.returns
returns g c =
    let point = IsPartitionPoint-from_clause (λ s. not (int_lt c.args.place s.start)) _ _ c.partition_point.ensures.partitioned
    (parted c.args.place c.args.segments.now c.requires) (λ a r q k. search rules) in
    (search rules, (λ k d a b. grind (arith, ints, point.0 k d a b), λ k d a b. grind (arith, ints, point.1 k d a b)))
