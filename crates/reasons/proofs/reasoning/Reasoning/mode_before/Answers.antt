use Rattle.std.proofs.Common.{ap, sym, ◌∙◌}
use Rattle.events.specs.declared.output.Output.{Output}
use Rattle.kernel.specs.Lives.{past_at}
use Rattle.reasons.specs.Closings.{mode_before}
use Rattle.reasons.proofs.reasoning.Reasoning.mode_before.Goals as goal

pub returns-in-Input : goal.returns-in-Input
returns-in-Input c = λ story stands.
    ap (λ (o : Output). o.mode) (c.output.ensures story stands) ∙ ap (mode_before (past_at story)) (sym c.in-Input.is)
