use Rattle.std.proofs.Common.{arith, ◌≡◌, ap, sym, subst}
use Rattle.std.proofs.lemmas.Bool.{false≢true}
use Rattle.track_picture.proofs.state.TracksideOver.copy.Goals as goal
use Rattle.track_picture.specs.StandsFor.{Knowledge, size_in}
use Rattle.track_picture.specs.Stores.{Stores}

pub returns-in_err-copy-clause-quiet : goal.returns-in_err-copy-clause-quiet
returns-in_err-copy-clause-quiet g c = λ none.
    let N : Knowledge _ _ → Type 0 = λ known. size_in g.T.ProfileStores.stores known ≡ 0 in
    let none = subst N (sym c.self.view_is) none in
    absurd (false≢true (c.in_err-copy.ensures.quiet (omega (arith, none))))

pub returns-in_err-copy-2-clause-quiet : goal.returns-in_err-copy-2-clause-quiet
returns-in_err-copy-2-clause-quiet g c = λ none.
    let N : Knowledge _ _ → Type 0 = λ known. size_in g.T.ProfileStores.stores known ≡ 0 in
    let none = subst N (sym c.self.view_is) none in
    let size = ap (λ (s : Stores _ _). s.gradients_size c.self.inside.gradients) g.met.T.ProfileStores.stores_are in
    absurd (false≢true (c.in_err-copy-2.ensures.quiet (omega (arith, none, size))))

pub returns-in_err-copy-3-clause-quiet : goal.returns-in_err-copy-3-clause-quiet
returns-in_err-copy-3-clause-quiet g c = λ none.
    let N : Knowledge _ _ → Type 0 = λ known. size_in g.T.ProfileStores.stores known ≡ 0 in
    let none = subst N (sym c.self.view_is) none in
    let size = ap (λ (s : Stores _ _). s.speeds_size c.self.inside.speeds) g.met.T.ProfileStores.stores_are in
    absurd (false≢true (c.in_err-copy-3.ensures.quiet (omega (arith, none, size))))
