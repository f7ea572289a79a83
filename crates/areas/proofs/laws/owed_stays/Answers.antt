use Rattle.areas.proofs.Owing.{owed_stays}
use Rattle.areas.proofs.laws.owed_stays.Goals as goal

pub returns : goal.returns
returns c = owed_stays
