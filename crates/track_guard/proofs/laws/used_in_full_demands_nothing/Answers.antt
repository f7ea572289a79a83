use Rattle.track_guard.proofs.Using.{used_demands_nothing}
use Rattle.track_guard.proofs.laws.used_in_full_demands_nothing.Goals as goal

pub returns : goal.returns
returns c = used_demands_nothing
