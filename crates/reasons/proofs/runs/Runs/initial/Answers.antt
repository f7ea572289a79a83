use Rattle.std.proofs.Common.{◌∙◌}
use Rattle.reasons.specs.Runs.{no_runs, runs_held}
use Rattle.reasons.proofs.runs.Runs.initial.Goals as goal

pub returns : goal.returns
returns c story cold held number = c.held.ensures ∙ (λ i. runs_held no_runs (held i) (number i))
