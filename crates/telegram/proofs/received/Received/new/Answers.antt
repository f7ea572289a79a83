use Rattle.std.proofs.Common.{refl}
use Rattle.std.proofs.lemmas.Result.{err_from_is_err_and}
use Rattle.telegram.proofs.Answering.{fault_ok, fault_err}
use Rattle.telegram.proofs.Walking.{copy_held, received_same, received_found, received_refused}
use Rattle.telegram.proofs.received.Received.new.Goals as goal

pub returns-in_err-walk-clause-found : goal.returns-in_err-walk-clause-found
returns-in_err-walk-clause-found c =
    let p = err_from_is_err_and c.from_residual.result c.from_residual.ensures.1 in
    rw (p.1, p.2) (received_refused _ _ ((c.in_err-walk.ensures.fault _).0 refl))

pub returns-in_err-walk-clause-fault : goal.returns-in_err-walk-clause-fault
returns-in_err-walk-clause-fault c =
    let p = err_from_is_err_and c.from_residual.result c.from_residual.ensures.1 in
    rw (p.1, p.2) (fault_err _ _ _ ((c.in_err-walk.ensures.fault _).0 refl))

pub copy_of-requires : goal.copy_of-requires
copy_of-requires c =
    let walk = (c.in_ok-walk.ensures.found _).0 refl in
    walk.1.small

pub invariant_of-result : goal.invariant_of-result
invariant_of-result c =
    let walk = (c.in_ok-walk.ensures.found _).0 refl in
    copy_held _ _ _ walk _ _ c.header.ensures c.len.ensures c.copy_of.ensures

pub returns-clause-found : goal.returns-clause-found
returns-clause-found c =
    let walk = (c.in_ok-walk.ensures.found _).0 refl in
    received_found _ walk.0 _ walk.1 (received_same _ _ _ walk _ _ c.header.ensures c.len.ensures c.copy_of.ensures)

pub returns-clause-fault : goal.returns-clause-fault
returns-clause-fault c =
    let walk = (c.in_ok-walk.ensures.found _).0 refl in
    fault_ok _ _ walk.0 walk.1
