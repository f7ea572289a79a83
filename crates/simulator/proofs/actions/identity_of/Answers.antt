use Rattle.std.proofs.Common.{◌≡◌, true, false, rules, refl, subst, sym}
use Rattle.std.proofs.lemmas.Bool.{false≢true}
use Rattle.driver.specs.Limits.{IsIdentity}
use Rattle.simulator.proofs.Identity.{identity-true, identity-false}
use Rattle.simulator.specs.Actions.{is_identity}
use Rattle.simulator.proofs.actions.identity_of.Goals as goal

pub returns-in-Some : goal.returns-in-Some
returns-in-Some c =
    let same : c.as_bytes.result.now ≡ c.args.text.now = search rules in
    let is : IsIdentity c.as_bytes.result.now = c.in-Some.ensures.found.0 (search rules) in
    let good : is_identity c.args.text.now ≡ true = identity-true c.args.text.now (subst IsIdentity same is) in
    rw (good, c.in-Some.ensures.value, same) refl

pub returns-in-None : goal.returns-in-None
returns-in-None c =
    let same : c.as_bytes.result.now ≡ c.args.text.now = search rules in
    let bad : is_identity c.args.text.now ≡ false = identity-false c.args.text.now (λ is. false≢true (c.in-None.ensures.found.1 (subst IsIdentity (sym same) is))) in
    rw bad refl
