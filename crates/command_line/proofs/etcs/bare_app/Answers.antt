use Rattle.std.proofs.Common.{codes, refl, true}
use Rattle.clap.specs.Words.{Shape, new_app}
use Rattle.clap.specs.Simple.{on_top}
use Rattle.command_line.specs.Arguments.{IsApp}
use Rattle.command_line.proofs.Apps.{with_setting}
use Rattle.command_line.proofs.etcs.bare_app.Goals as goal

pub returns : goal.returns
returns c =
    let new : IsApp (new_app (codes "etcs")) c.new.result = record { is = c.new.ensures.app; local = c.new.ensures.local } in
    let named = with_setting (on_top (λ (s : Shape). record s { no_binary_name = true })) _ _ c.no_binary_name.result _ c.no_binary_name.ensures refl refl new in
    let no_flag = with_setting (on_top (λ (s : Shape). record s { disable_help_flag = true })) _ _ c.disable_help_flag.result _ c.disable_help_flag.ensures refl refl named in
    let no_help = with_setting (on_top (λ (s : Shape). record s { disable_help_subcommand = true })) _ _ c.disable_help_subcommand.result _ c.disable_help_subcommand.ensures refl refl no_flag in
    with_setting (on_top (λ (s : Shape). record s { subcommand_required = true })) _ _ c.subcommand_required.result _ c.subcommand_required.ensures refl refl no_help
