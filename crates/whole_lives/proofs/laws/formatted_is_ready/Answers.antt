use Rattle.std.proofs.Common.{[], inl, refl}
use Rattle.unit_start.specs.Events.{account_of}
use Rattle.ring.proofs.Rest.{at_rest}
use Rattle.whole_lives.proofs.laws.formatted_is_ready.Goals as goal

pub returns : goal.returns
returns c = λ slots disk made. record { more = []; begins = refl; each = λ c' image. inl (at_rest slots 0 (account_of 0 []) disk (made (account_of 0 []) (refl, refl)) c' image) }
