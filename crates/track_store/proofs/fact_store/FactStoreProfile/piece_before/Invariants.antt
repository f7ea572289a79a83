use Rattle.std.proofs.Common.{◌≡◌, drop}
use Rattle.track_store.specs.Changes.{last_fact}
use Rattle.track_store.proofs.fact_store.FactStoreProfile.piece_before.Given as goal

abbrev pub invariant-loop-fact : goal.invariant-loop-fact
invariant-loop-fact g l =
    last_fact l.place l.from (drop l.fact-index l.fact-items) ≡ last_fact l.place l.initial.from l.fact-items
