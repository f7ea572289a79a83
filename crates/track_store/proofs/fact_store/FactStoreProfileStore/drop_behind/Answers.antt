use Rattle.std.proofs.Common.{◌<◌, ◌≤◌, ◌≡◌, length, get_or, ap, refl, ◌∙◌, arith}
use Rattle.track_store.specs.Facts.{from_mark}
use Rattle.track_store.specs.Remembered.{forgotten, value_remembered, Listed}
use Rattle.track_store.proofs.Forgetting.{one_changed, all_changed, all_forgotten}
use Rattle.track_store.proofs.fact_store.FactStoreProfileStore.drop_behind.Goals as goal

pub loop-fact-preserved : goal.loop-fact-preserved
loop-fact-preserved g c =
    let now = c.loop-fact.fact-items in
    let inside : c.loop-fact.fact-index < length now = omega arith in
    one_changed (forgotten c.args.place) c.deref_mut-fact-items.result.now now c.loop-fact.fact-index
    (get_or now c.loop-fact.fact-index c.fact-item.result) c.forget.new.self c.fact-item.result inside refl c.forget.ensures c.loop-fact.invariant

pub returns-clause-value : goal.returns-clause-value
returns-clause-value g c there =
    let now = c.loop-fact.fact-items in
    let all : length now ≤ c.loop-fact.fact-index = omega arith in
    let whole : length now ≡ c.self.inside.facts.len = omega arith in
    ap (λ facts. value_remembered facts there)
    (all_changed (forgotten c.args.place) c.deref_mut-fact-items.result.now now _ c.loop-fact.fact-index c.self.inside.facts.len all whole c.loop-fact.invariant)
    ∙ all_forgotten c.args.place c.deref_mut-fact-items.result.now there
    ∙ ap (λ facts. from_mark c.args.place (value_remembered facts) there) (c.deref_mut-fact-items.ensures.value ∙ ap (λ (l : Listed _). l.facts) c.self.view_is)
