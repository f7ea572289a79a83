use Rattle.std.proofs.Common.{◌∙◌, ◌≡◌, map, sym}
use Rattle.std.specs.String.{string_bytes}
use Rattle.clap.specs.Words.{kind_of}
use Rattle.clap.specs.declared.error.kind.ErrorKind.TheVariants as kind
use Rattle.command_line.proofs.EtcsParsing.{values_found, values_refused}
use Rattle.command_line.proofs.etcs.parse_etcs.Goals as goal

pub returns-in-Some-clause-ok : goal.returns-in-Some-clause-ok
returns-in-Some-clause-ok c = values_found (map string_bytes c.args.args.now) _ c.in-Ok.ensures.faults c.in-Ok.ensures.matches ∙ sym c.in-Some.ensures

pub returns-in-Ok-clause-err : goal.returns-in-Ok-clause-err
returns-in-Ok-clause-err c = λ _. values_found (map string_bytes c.args.args.now) _ c.in-Ok.ensures.faults c.in-Ok.ensures.matches ∙ sym c.in-None.ensures

pub returns : goal.returns
returns c = record {
  ok = tt;
  err = λ _. values_refused (map string_bytes c.args.args.now) c.in-Err.error c.in-Err.ensures.faults
      (λ (is : kind_of c.in-Err.error ≡ kind.OutOfMemory). c.in_default.not-OutOfMemory (c.kind.ensures ∙ is));
}
