use Rattle.std.proofs.Common.{◌≡◌, ◌≤◌, take}
use Rattle.std.specs.Prelude.{vec_len, vec_capacity}
use Rattle.track_store.proofs.fact_store.FactStoreProfileStore.copy.Given as goal

abbrev pub invariant-loop-fact : goal.invariant-loop-fact
invariant-loop-fact g l = (l.facts.items ≡ take l.fact-index l.fact-items) × (vec_len l.facts ≡ l.fact-index) × (vec_capacity l.initial.facts ≤ vec_capacity l.facts)
