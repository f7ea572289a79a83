use Rattle.std.proofs.Common.{ap, sym, ◌∙◌}
use Rattle.std.specs.Prelude.{None}
use Rattle.std.proofs.lemmas.List.{at_drop_all}
use Rattle.track_store.specs.Changes.{nearest_fact}
use Rattle.track_store.specs.Remembered.{Listed}
use Rattle.track_store.proofs.Lasting.{lasts}
use Rattle.track_store.proofs.fact_store.FactStoreProfile.next.Goals as goal

pub returns : goal.returns
returns g c =
    let place = c.args.place in
    let all = at_drop_all (nearest_fact place c.loop-fact.nearest) c.deref-fact-items.result.now c.loop-fact.fact-index c.loop-fact-test.false in
    lasts place c.args.self.now.facts c.loop-fact.nearest
    ((λ i. nearest_fact place None (sym (c.deref-fact-items.ensures.value ∙ ap (λ (l : Listed _). l.facts) c.self.view_is) i)) ∙ sym c.loop-fact.invariant ∙ all)
