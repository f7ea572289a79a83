use Rattle.std.proofs.Common.{◌≡◌, codes, rules}
use Rattle.std.specs.Prelude.{false}
use Rattle.clap.specs.Words.{rule_of}
use Rattle.command_line.specs.Arguments.{required}
use Rattle.command_line.proofs.etcs.journal_app.Goals as goal

pub returns : goal.returns
returns c =
    let rule_is : rule_of c.required-image.result ≡ required (codes "IMAGE") = search rules in
    let plain : c.required-image.result.global ≡ false = search rules in
    c.with_arg.ensures _ _ (record { is = c.new-2.ensures.app; local = c.new-2.ensures.local }) (record { is = rule_is; plain = plain })
