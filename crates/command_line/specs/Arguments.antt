-- Commands as `clap` reads them, and the values of arguments (this project's profile).
use Rattle.std.specs.Prelude.{◌≡◌, ℕ, Bool, true, false, Option, Some, None, [], ◌∷◌, if◌then◌else◌}
use Rattle.std.specs.Str.Parse.{digits_value, without_leading_plus}
use Rattle.clap.specs.Words.{App, Rule, Text, Kinds, app_of, new_rule, rule_of}
use Rattle.clap.specs.ValueTests.{is_unsigned_in}
use Rattle.clap.specs.declared.builder.arg.Arg.{Arg}
use Rattle.clap.specs.declared.builder.command.Command.{Command}
use Rattle.clap.specs.declared.builder.command.Command.TheViews.{out-Command}

-- the command is this one, and has no argument that its subcommands share
pub record IsApp (app : App) (command : Command) : Type 0 where
  pub is : app_of command ≡ app
  pub local : (out-Command command).has_globals ≡ false

-- the argument is read by this rule, and is not shared with subcommands
pub record IsArg (rule : Rule) (arg : Arg) : Type 0 where
  pub is : rule_of arg ≡ rule
  pub plain : arg.global ≡ false

-- the parser finds no fault
abbrev pub has_no_fault : Kinds → Bool
has_no_fault [] = true
has_no_fault (kind ∷ kinds) = false

-- a positional argument that must be there
abbrev pub required : Text → Rule
required id = record (new_rule id) { required = true }

-- the number that a text writes as Rust's parse reads it: digits, which a plus may precede; None for another text, and
-- for a number above `most`
abbrev pub number_of : ℕ → Text → Option ℕ
number_of most text = if is_unsigned_in 0 most text then Some (digits_value 10 (without_leading_plus text)) else None

abbrev pub most_u32 : ℕ
most_u32 = 4_294_967_295
