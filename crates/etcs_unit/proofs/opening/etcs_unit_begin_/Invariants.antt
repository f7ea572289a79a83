use Rattle.std.proofs.Common.{◌*◌, replicate}
use Rattle.etcs_unit.proofs.opening.etcs_unit_begin_.Given as goal

abbrev pub ghost-unit_begin_call : goal.ghost-unit_begin_call
ghost-unit_begin_call a = replicate (512 * a.sectors) 0
