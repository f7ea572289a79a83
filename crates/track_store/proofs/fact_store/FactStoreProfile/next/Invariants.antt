use Rattle.std.proofs.Common.{◌≡◌, drop}
use Rattle.track_store.specs.Changes.{nearest_fact}
use Rattle.track_store.proofs.fact_store.FactStoreProfile.next.Given as goal

abbrev pub invariant-loop-fact : goal.invariant-loop-fact
invariant-loop-fact g l =
    nearest_fact l.place l.nearest (drop l.fact-index l.fact-items) ≡ nearest_fact l.place l.initial.nearest l.fact-items
