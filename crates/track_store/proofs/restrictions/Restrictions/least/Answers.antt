use Rattle.std.proofs.Common.{◌≡◌, sym, ap, ◌∙◌, arith}
use Rattle.std.specs.Int.{int_max}
use Rattle.std.proofs.lemmas.Int.{ints}
use Rattle.std.proofs.lemmas.List.{at_drop_all}
use Rattle.track_store.specs.Restrictions.{Held}
use Rattle.track_store.proofs.Limiting.{least_met, least_met_is}
use Rattle.track_store.proofs.restrictions.Restrictions.least.Goals as goal

pub returns : goal.returns
returns c =
    let mark : c.self.inside.mark ≡ c.args.self.now.track.mark = ap (λ (h : Held). h.track.mark) c.self.view_is in
    let first : c.max-first.result ≡ int_max c.args.self.now.track.mark c.args.train.now.rear = grind (arith, ints) in
    let items : c.deref-restriction-items.result.now ≡ c.args.self.now.track.restrictions =
    c.deref-restriction-items.ensures.value ∙ ap (λ (h : Held). h.track.restrictions) c.self.view_is in
    let all = at_drop_all (least_met c.max-first.result c.args.train.now c.loop-restriction.limit) c.deref-restriction-items.result.now c.loop-restriction.restriction-index c.loop-restriction-test.false in
    sym all ∙ c.loop-restriction.invariant ∙ (λ i. least_met (first i) c.args.train.now c.args.otherwise (items i))
    ∙ least_met_is c.args.self.now.track c.args.train.now c.args.otherwise
