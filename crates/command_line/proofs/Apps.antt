-- Commands as the builders make them.
use Rattle.std.proofs.Common.{◌≡◌, ◌∙◌, ap}
use Rattle.clap.specs.Words.{App}
use Rattle.clap.specs.Simple.{app_of_fields}
use Rattle.clap.specs.declared.builder.command.Command.{Command}
use Rattle.clap.specs.declared.builder.command.Command.TheOpen.{Command-F}
use Rattle.clap.specs.declared.builder.command.Command.TheViews.{out-Command}
use Rattle.command_line.specs.Arguments.{IsApp}

-- a setting of the program
pub with_setting : (set : App → App) (app : App) (old new : Command) (fields : Command-F Command) → out-Command new ≡ fields → app_of_fields fields ≡ set (app_of_fields (out-Command old))
    → fields.has_globals ≡ (out-Command old).has_globals → IsApp app old → IsApp (set app) new
with_setting set app old new fields is same plain before = record {
  is = ap app_of_fields is ∙ same ∙ ap set before.is;
  local = ap (λ (f : Command-F Command). f.has_globals) is ∙ plain ∙ before.local;
}
