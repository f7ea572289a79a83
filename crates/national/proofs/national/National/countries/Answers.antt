use Rattle.std.proofs.Common.{ap, ◌∙◌}
use Rattle.national.specs.Values.{is_any}
use Rattle.national.specs.InForce.{KnownValues}
use Rattle.national.proofs.Coming.{any_in_force}
use Rattle.national.proofs.national.National.countries.Goals as goal

pub returns-clause-any : goal.returns-clause-any
returns-clause-any c entries is =
    ap is_any c.countries.ensures.value ∙ ap (λ (k : KnownValues). is_any k.in_force.countries) (c.self.view_is ∙ is) ∙ any_in_force entries
