use Rattle.std.proofs.Common.{◌≡◌, ℕ, subst}
use Rattle.std.specs.Prelude.{IfSome}
use Rattle.speed_supervision.specs.declared.steady.SteadyLimit.{SteadyLimit}
use Rattle.speed_supervision.proofs.steady.SteadyLimit.find.Goals as goal

pub returns-clause-limit : goal.returns-clause-limit
returns-clause-limit g c life s =
    subst (λ (speed : ℕ). IfSome c.find_for.result (λ (steady : SteadyLimit). steady.limit ≡ speed)) (c.in_ok-train.ensures life s)
    (c.find_for.ensures.limit life s)
