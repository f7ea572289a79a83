use Rattle.std.proofs.Common.{◌≡◌, drop}
use Rattle.track_store.specs.Remembered.{value_remembered}
use Rattle.track_store.proofs.fact_store.FactStoreProfile.at.Given as goal

abbrev pub invariant-loop-fact : goal.invariant-loop-fact
invariant-loop-fact g l = value_remembered (drop l.fact-index l.fact-items) l.place ≡ value_remembered l.fact-items l.place
