use Rattle.std.proofs.Common.{◌∷◌}
use Rattle.whole_lives.proofs.laws.commands_emergency_until_revalidated.Goals as goal

pub returns : goal.returns
returns c = λ events event not_so. c.brakes_until_revalidated.ensures (event ∷ events) not_so
