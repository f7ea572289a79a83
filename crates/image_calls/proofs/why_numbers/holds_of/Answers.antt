use Rattle.std.proofs.Common.{rules, is_some}
use Rattle.kernel.specs.Causes.{all_causes}
use Rattle.kernel.specs.declared.causes.BrakeCause.TheVariants.{InTrip}
use Rattle.c_numbers.specs.Numbers.{flag_of}
use Rattle.reasons.specs.Runs.{first_in}
use Rattle.reasons.proofs.Mapped.{all_mapped}
use Rattle.image_calls.proofs.why_numbers.holds_of.Goals as goal

pub returns : goal.returns
returns c = all_mapped _ _ (λ why. flag_of (is_some (first_in c.args.runs.now why))) (λ why y next called. (search rules, search rules)) all_causes c.map.result InTrip c.map.ensures.items
