use Rattle.std.proofs.Common.{◌≡◌, ℤ, ◌≤ℤ◌, ◌<ℤ◌, ap, sym, subst, ◌∙◌, arith}
use Rattle.std.proofs.lemmas.Int.{ints}
use Rattle.std.proofs.lemmas.List.{at_drop_all}
use Rattle.track_store.specs.Changes.{last_fact}
use Rattle.track_store.specs.Remembered.{Listed}
use Rattle.track_store.proofs.Holding.{last_above, last_below, holds}
use Rattle.track_store.proofs.fact_store.FactStoreProfile.piece_before.Given.{Over}
use Rattle.track_store.proofs.fact_store.FactStoreProfile.piece_before.Goals as goal

module _ (g : Over) (c : goal.After-at g) where
  -- where it begins is the last of all places
  from_is : last_fact c.args.place c.args.least c.args.self.now.facts ≡ c.loop-fact.from
  from_is =
      let items : c.deref-fact-items.result.now ≡ c.args.self.now.facts =
      c.deref-fact-items.ensures.value ∙ ap (λ (l : Listed _). l.facts) c.self.view_is in
      let all = at_drop_all (last_fact c.args.place c.loop-fact.from) c.deref-fact-items.result.now c.loop-fact.fact-index c.loop-fact-test.false in
      (λ i. last_fact c.args.place c.args.least (sym items i)) ∙ sym c.loop-fact.invariant ∙ all

pub returns-clause-within : goal.returns-clause-within
returns-clause-within g c =
    subst (λ (from : ℤ). c.args.least ≤ℤ from) (from_is g c) (last_above c.args.place c.args.least c.args.self.now.facts)

pub returns-clause-before : goal.returns-clause-before
returns-clause-before g c =
    subst (λ (from : ℤ). from <ℤ c.args.place) (from_is g c)
    (last_below c.args.place c.args.least c.args.self.now.facts (omega (arith, ints, c.requires)))

pub returns-clause-value : goal.returns-clause-value
returns-clause-value g c there ahead before =
    holds c.args.place c.args.least c.loop-fact.from c.args.self.now.facts (from_is g c) there ahead before ∙ sym c.at.ensures
