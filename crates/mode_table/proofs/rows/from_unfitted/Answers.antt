use Rattle.std.proofs.Common.{arith}
use Rattle.std.proofs.lemmas.Grind.{common_steps}
use Rattle.mode_table.proofs.rows.from_unfitted.Goals as goal

pub returns-then-conditions-9 : goal.returns-then-conditions-9
returns-then-conditions-9 c = grind (arith, common_steps)
