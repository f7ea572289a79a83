use Rattle.std.proofs.Common.{◌≤ℤ◌, ◌∙◌, ap, subst, arith, ℤ}
use Rattle.std.proofs.lemmas.Int.{ints}
use Rattle.track_store.specs.Restrictions.{Held}
use Rattle.track_store.proofs.Standing.{one_mark, same_mark}
use Rattle.track_store.proofs.restrictions.Restrictions.drop_behind.Goals as goal

pub returns-then-lt-clause-track : goal.returns-then-lt-clause-track
returns-then-lt-clause-track c entries is =
    one_mark _ c.args.mark _ _ entries (ap (λ (h : Held). h.track) c.self.view_is ∙ is) (grind (arith, ints)) c.drop_forgotten.ensures.kept

pub returns-else-lt-clause-track : goal.returns-else-lt-clause-track
returns-else-lt-clause-track c entries is =
    let inside : c.args.mark ≤ℤ c.self.inside.mark = grind (arith, ints) in
    same_mark c.args.mark c.args.self.now.track entries is (subst (λ (z : ℤ). c.args.mark ≤ℤ z) (ap (λ (h : Held). h.track.mark) c.self.view_is) inside)
