use Rattle.track_guard.proofs.Applying.{rows_are_demanded}
use Rattle.track_guard.proofs.laws.rows_are_demanded_and_no_others.Goals as goal

pub returns : goal.returns
returns c = rows_are_demanded
