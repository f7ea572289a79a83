use Rattle.balise_groups.proofs.PacketCounts.{closing_space}
use Rattle.balise_groups.proofs.assembler.Assembler.moved.Goals as goal

pub returns-then-is_leaving-clause-few : goal.returns-then-is_leaving-clause-few
returns-then-is_leaving-clause-few c = closing_space _ _ c.end.ensures.answer
