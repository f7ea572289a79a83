use Rattle.std.proofs.Common.{sym, subst}
use Rattle.kernel.specs.Lives.{past_at}
use Rattle.reasons.specs.Reported.{Reasoned, Reasons}
use Rattle.reasons.proofs.reasoning.Reasoning.limit_cause.Goals as goal

pub returns : goal.returns
returns c = λ story stands.
    let at = subst (λ (r : Reasoned). Reasons story r) (sym c.self.view_is) stands in
    c.limit_cause.ensures (past_at story).life at.knows.life_is
