use Rattle.std.proofs.Common.{rules}
use Rattle.kernel.specs.Causes.{all_causes, is_among, marked}
use Rattle.kernel.specs.declared.causes.BrakeCause.TheVariants.{InTrip}
use Rattle.c_numbers.specs.Numbers.{flag_of}
use Rattle.reasons.proofs.Mapped.{all_mapped}
use Rattle.unit_calls.proofs.why.holds_in.Goals as goal

pub returns : goal.returns
returns c = all_mapped _ _ (λ why. flag_of (is_among why (marked c.args.causes.now))) (λ why y next called. (search rules, search rules)) all_causes c.map.result InTrip c.map.ensures.items
