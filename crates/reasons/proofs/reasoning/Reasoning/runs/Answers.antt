use Rattle.std.proofs.Common.{sym, subst}
use Rattle.reasons.specs.Reported.{Reasoned, Reasons}
use Rattle.reasons.proofs.reasoning.Reasoning.runs.Goals as goal

pub returns : goal.returns
returns c = λ story stands.
    let at = subst (λ (r : Reasoned). Reasons story r) (sym c.self.view_is) stands in
    at.runs_are
