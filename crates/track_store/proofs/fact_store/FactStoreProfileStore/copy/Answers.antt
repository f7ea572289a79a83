use Rattle.std.proofs.Common.{◌≡◌, List, ◌∷◌, [], ◌++◌, length, ap, sym, subst, ◌∙◌, arith}
use Rattle.std.proofs.lemmas.Bool.{false≢true}
use Rattle.std.proofs.lemmas.List.{take_all, take_more}
use Rattle.track_store.specs.Remembered.{Remembered, Listed, size_of}
use Rattle.track_store.proofs.fact_store.FactStoreProfileStore.copy.Goals as goal

pub returns-in_err-facts-clause-quiet : goal.returns-in_err-facts-clause-quiet
returns-in_err-facts-clause-quiet g c = λ none.
    let N : Listed _ → Type 0 = λ listed. size_of listed ≡ 0 in
    let none = subst N (sym c.self.view_is) none in
    absurd (false≢true (c.in_err-facts.ensures.succeeds (omega (arith, none, c.len.ensures, c.self.inside.facts.ok.0))))

pub returns-in_err-copy-clause-quiet : goal.returns-in_err-copy-clause-quiet
returns-in_err-copy-clause-quiet g c = λ none.
    let N : Listed _ → Type 0 = λ listed. size_of listed ≡ 0 in
    let none = subst N (sym c.self.view_is) none in
    absurd (omega (arith, none, ap length c.deref-fact-items.ensures.value, c.loop-fact-test.true))

pub returns-in_err-push-clause-quiet : goal.returns-in_err-push-clause-quiet
returns-in_err-push-clause-quiet g c = λ none.
    let N : Listed _ → Type 0 = λ listed. size_of listed ≡ 0 in
    let none = subst N (sym c.self.view_is) none in
    absurd (omega (arith, none, ap length c.deref-fact-items.ensures.value, c.loop-fact-test.true))

pub returns-in_err-add_blanks-clause-quiet : goal.returns-in_err-add_blanks-clause-quiet
returns-in_err-add_blanks-clause-quiet g c = λ none.
    let N : Listed _ → Type 0 = λ listed. size_of listed ≡ 0 in
    let none = subst N (sym c.self.view_is) none in
    absurd (false≢true (c.in_err-add_blanks.ensures.quiet (omega (arith, none))))

pub loop-fact-preserved : goal.loop-fact-preserved
loop-fact-preserved g c =
    let items = c.deref-fact-items.result.now in
    let so_far = c.loop-fact.invariant in (
      c.in_ok-push.ensures.items
          ∙ (λ i. so_far.0 i ++ (c.in_ok-copy.ensures ∙ c.fact-item.is) i ∷ [])
          ∙ sym (take_more items c.loop-fact.fact-index c.fact-item.result c.loop-fact-test.true),
      omega (arith, c.in_ok-push.ensures.len, so_far.1),
      omega (arith, c.in_ok-push.ensures.capacity, so_far.2),
    )

pub invariant_of-result : goal.invariant_of-result
invariant_of-result g c =
    let so_far = c.loop-fact.invariant in (
      omega (arith, so_far.1, so_far.2, c.in_ok-facts.ensures.capacity, c.len.ensures, c.deref-fact-items.ensures.len, c.loop-fact.auto.fact-index-end),
      c.in_ok-add_blanks.ensures.ok,
    )

pub returns-clause-value : goal.returns-clause-value
returns-clause-value g c =
    let items = c.deref-fact-items.result.now in
    let listed : List (Remembered _) → Listed _ = λ facts. record { facts = facts; space = c.self.inside.space } in
    ap listed (c.loop-fact.invariant.0 ∙ take_all c.loop-fact.fact-index items c.loop-fact-test.false ∙ c.deref-fact-items.ensures.value) ∙ c.self.view_is
