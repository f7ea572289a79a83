use Rattle.std.proofs.Common.{◌≡◌, codes, rules}
use Rattle.std.specs.Prelude.{false}
use Rattle.clap.specs.Words.{rule_of}
use Rattle.command_line.specs.Arguments.{required}
use Rattle.command_line.proofs.etcs.format_app.Goals as goal

pub returns : goal.returns
returns c =
    let first_is : rule_of c.required-image.result ≡ required (codes "IMAGE") = search rules in
    let first_plain : c.required-image.result.global ≡ false = search rules in
    let second_is : rule_of c.required-blocks.result ≡ required (codes "BLOCKS") = search rules in
    let second_plain : c.required-blocks.result.global ≡ false = search rules in
    let before = c.with_arg-format.ensures _ _ (record { is = c.new-2.ensures.app; local = c.new-2.ensures.local }) (record { is = first_is; plain = first_plain }) in
    c.with_arg.ensures _ _ before (record { is = second_is; plain = second_plain })
