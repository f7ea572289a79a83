use Rattle.unit_calls.proofs.Histories.{handed_out_is_on_medium}
use Rattle.unit_calls.proofs.laws.handed_out_is_on_medium.Goals as goal

pub returns : goal.returns
returns c = handed_out_is_on_medium
