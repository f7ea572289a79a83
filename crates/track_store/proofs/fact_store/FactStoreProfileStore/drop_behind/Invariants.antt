use Rattle.std.proofs.Common.{◌≡◌, ◌++◌, map, take, drop}
use Rattle.track_store.specs.Remembered.{forgotten}
use Rattle.track_store.proofs.fact_store.FactStoreProfileStore.drop_behind.Given as goal

-- those that were passed are forgotten
abbrev pub invariant-loop-fact : goal.invariant-loop-fact
invariant-loop-fact g l =
    take l.fact-index l.fact-items ++ map (forgotten l.place) (drop l.fact-index l.fact-items) ≡ map (forgotten l.place) l.initial.fact-items
