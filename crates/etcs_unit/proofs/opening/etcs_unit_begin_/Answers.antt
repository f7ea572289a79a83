use Rattle.std.proofs.Common.{◌*◌}
use Rattle.std.proofs.lemmas.List.{length-replicate}
use Rattle.etcs_unit.proofs.opening.etcs_unit_begin_.Goals as goal

pub unit_begin_call-requires : goal.unit_begin_call-requires
unit_begin_call-requires c = length-replicate (512 * c.args.sectors) 0
