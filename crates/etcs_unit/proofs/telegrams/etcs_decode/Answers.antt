use Rattle.std.proofs.Common.{◌∙◌, ap, arith, refl, sym, subst}
use Rattle.bits.proofs.Laws.{err_same}
use Rattle.etcs_unit.proofs.Description.{number_once, number_some, walk_of}
use Rattle.telegram.specs.Faults.{number_of_fault}
use Rattle.telegram.specs.Telegrams.{RefusesBytes}
use Rattle.telegram.specs.declared.fault.TelegramFault.{TelegramFault}
use Rattle.etcs_unit.proofs.telegrams.etcs_decode.Goals as goal

pub returns-in-Ok-clause-carried : goal.returns-in-Ok-clause-carried
returns-in-Ok-clause-carried c =
    let w = (c.in-Ok.ensures.found c.in-Ok.field-0).0 refl in
    (λ _. (w.0, w.1), λ _. refl)

pub returns-in-Ok-clause-refused : goal.returns-in-Ok-clause-refused
returns-in-Ok-clause-refused c = λ e. (
  λ same. absurd (let p = number_some e in omega (arith, p, same)),
  λ r. absurd (let p = (c.in-Ok.ensures.fault e).1 r in cc),
)

pub returns-in-Err-clause-carried : goal.returns-in-Err-clause-carried
returns-in-Err-clause-carried c = (
  λ same. absurd (let p = number_some c.in-Err.fault in omega (arith, p, same, c.number_of.ensures)),
  λ x. absurd (let p = (c.in-Err.ensures.found (walk_of c.args.bytes.now x.0)).1 (x.0, x.1, refl) in cc),
)

pub returns-in-Err-clause-refused : goal.returns-in-Err-clause-refused
returns-in-Err-clause-refused c = λ e. (
  λ same. subst (λ (x : TelegramFault). RefusesBytes x c.args.bytes.now) (number_once _ e (sym c.number_of.ensures ∙ same)) ((c.in-Err.ensures.fault c.in-Err.fault).0 refl),
  λ r. c.number_of.ensures ∙ ap number_of_fault (err_same _ _ e ((c.in-Err.ensures.fault e).1 r)),
)
