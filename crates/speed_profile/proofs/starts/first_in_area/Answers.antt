use Rattle.std.proofs.Common.{rules}
use Rattle.speed_profile.proofs.starts.first_in_area.Goals as goal

pub returns-else-remains : goal.returns-else-remains
returns-else-remains c = search rules
