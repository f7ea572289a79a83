use Rattle.std.proofs.Common.{◌≡◌, ◌+◌, Bool, true, false, cond, ◌∷◌, ap, ◌∙◌, refl, arith}
use Rattle.std.specs.Prelude.{Option, None, int_lt, vec_len}
use Rattle.track_store.specs.Facts.{given_by, replaced}
use Rattle.track_store.specs.Remembered.{Listed, value_listed, value_remembered}
use Rattle.track_store.proofs.fact_store.FactStoreProfileStore.replace_reserved.Goals as goal

-- what is forgotten before the first place isn't asked for there
from_first : {A : Type 0} (before : Bool) (old given : Option A) → cond before old (cond before None given) ≡ cond before old given
from_first true old given = refl
from_first false old given = refl

pub unwrap-requires : goal.unwrap-requires
unwrap-requires g c =
    let space : c.self.inside.space ≡ c.args.self.now.space = ap (λ (l : Listed _). l.space) c.self.view_is in
    c.insert.ensures.succeeds (omega (arith, c.self.invariant.0, c.requires.space, space))

pub invariant_of-self : goal.invariant_of-self
invariant_of-self g c =
    let space : c.self.inside.space ≡ c.args.self.now.space = ap (λ (l : Listed _). l.space) c.self.view_is in
    let len : vec_len c.insert.new.self ≡ vec_len c.self.inside.facts + 1 = rw c.unwrap.ensures at c.insert.ensures.len in
    (omega (arith, len, c.insert.ensures.capacity, c.self.invariant.0, c.requires.space, space), omega (arith, c.in-Some.ensures.len, c.self.invariant.1))

pub returns-in-Some-clause-value : goal.returns-in-Some-clause-value
returns-in-Some-clause-value g c place =
    let items = rw c.unwrap.ensures at c.insert.ensures.items in
    (λ i. value_remembered (items i) place)
    ∙ (λ i. value_remembered (c.fill.ensures i ∷ c.self.inside.facts.items) place)
    ∙ from_first (int_lt place c.args.start) (value_remembered c.self.inside.facts.items place) (given_by c.args.steps.now place)
    ∙ (λ i. replaced (value_listed (c.self.view_is i)) c.args.start c.args.steps.now place)
