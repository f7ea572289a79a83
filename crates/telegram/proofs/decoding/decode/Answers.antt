use Rattle.std.proofs.Common.{refl, ap, subst}
use Rattle.std.proofs.lemmas.Result.{err_from_is_err_and}
use Rattle.telegram.specs.Telegrams.{Carries}
use Rattle.telegram.specs.declared.message.Telegram.{Telegram}
use Rattle.telegram.proofs.Answering.{made, ok_same, fault_ok, fault_err}
use Rattle.telegram.proofs.decoding.decode.Goals as goal

pub returns-in_err-decode_into-clause-fault : goal.returns-in_err-decode_into-clause-fault
returns-in_err-decode_into-clause-fault c =
    let p = err_from_is_err_and c.from_residual.result c.from_residual.ensures.1 in
    rw (p.1, p.2) (fault_err _ _ _ ((c.in_err-decode_into.ensures.fault _).0 refl))

pub returns-clause-found : goal.returns-clause-found
returns-clause-found c t = (
  λ same. subst (λ (x : Telegram). Carries c.args.bytes.now x) (ok_same _ t same) c.in_ok-decode_into.ensures.ok,
  λ carries. ap made (c.in_ok-decode_into.ensures.only t carries).1,
)

pub returns-clause-fault : goal.returns-clause-fault
returns-clause-fault c = fault_ok _ _ c.decode_into.new.telegram c.in_ok-decode_into.ensures.ok

pub returns-clause-spelled : goal.returns-clause-spelled
returns-clause-spelled c = (c.in_ok-decode_into.ensures.spelled.0, c.in_ok-decode_into.ensures.spelled.1)
