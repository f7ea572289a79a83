use Rattle.std.proofs.Common.{rules, List, Option, ℕ, ap}
use Rattle.kernel.specs.Causes.{all_causes, marked}
use Rattle.kernel.specs.declared.causes.BrakeCause.TheVariants.{InTrip}
use Rattle.reasons.specs.declared.runs.Runs.{Runs}
use Rattle.reasons.specs.Runs.{run_held}
use Rattle.reasons.proofs.Mapped.{all_mapped}
use Rattle.reasons.proofs.runs.Runs.held.Goals as goal

abbrev with : List (Option ℕ) → Runs
with firsts = record { firsts = firsts }

pub returns : goal.returns
returns c = ap with
    (all_mapped _ _ (λ why. run_held why c.args.self.now (marked c.args.causes.now) c.args.number)
    (λ why y next called. (search rules, search rules)) all_causes c.map.result InTrip c.map.ensures.items)
