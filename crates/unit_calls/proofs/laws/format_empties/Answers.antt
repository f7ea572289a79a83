use Rattle.unit_calls.proofs.Emptying.{format_empties}
use Rattle.unit_calls.proofs.laws.format_empties.Goals as goal

pub returns : goal.returns
returns c = format_empties
