use Rattle.std.proofs.Common.{rules}
use Rattle.track_store.proofs.restriction.Restriction.is_ended_by.Goals as goal

pub returns-then-eq : goal.returns-then-eq
returns-then-eq c = search rules
