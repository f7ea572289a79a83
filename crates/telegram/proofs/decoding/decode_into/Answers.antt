use Rattle.std.proofs.Common.{refl}
use Rattle.telegram.proofs.Answering.{carried_once, not_refused, fault_ok, fault_err}
use Rattle.telegram.proofs.decoding.decode_into.Goals as goal

pub returns-in-Err-clause-only : goal.returns-in-Err-clause-only
returns-in-Err-clause-only c t carries = absurd (not_refused _ t _ carries c.in-Err.ensures.err)

pub returns-in-Err-clause-fault : goal.returns-in-Err-clause-fault
returns-in-Err-clause-fault c = fault_err _ _ _ c.in-Err.ensures.err

pub returns-clause-only : goal.returns-clause-only
returns-clause-only c t carries = (refl, carried_once _ _ t c.in_default.ensures.ok carries)

pub returns-clause-fault : goal.returns-clause-fault
returns-clause-fault c = fault_ok _ _ c.fill.new.telegram c.in_default.ensures.ok
