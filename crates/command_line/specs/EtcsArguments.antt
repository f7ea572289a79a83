-- The command line of `etcs`: the command as `clap` reads it, and what its arguments ask for (this project's profile).
use Rattle.std.specs.Prelude.{ℕ, Option, None, option_map, option_and_then, List, if◌then◌else◌, codes, true}
use Rattle.std.specs.Str.{bytes_eq}
use Rattle.clap.specs.Words.{App, Row, Text, fault_of, first_of, new_app, subcommand_of, with_rule, with_subcommand}
use Rattle.command_line.specs.Arguments.{has_no_fault, most_u32, number_of, required}
use Rattle.command_line.specs.declared.etcs.EtcsCommand.{EtcsCommand}
use Rattle.command_line.specs.declared.etcs.EtcsCommand.TheVariants as command

abbrev pub decode_app : App
decode_app = with_rule (new_app (codes "decode")) (required (codes "HEX"))

abbrev pub format_app : App
format_app = with_rule (with_rule (new_app (codes "format")) (required (codes "IMAGE"))) (required (codes "BLOCKS"))

abbrev pub run_app : App
run_app = with_rule (with_rule (new_app (codes "run")) (required (codes "SCENARIO"))) (required (codes "IMAGE"))

abbrev pub journal_app : App
journal_app = with_rule (new_app (codes "journal")) (required (codes "IMAGE"))

-- the program with no command yet: a command is required, and there is no help
abbrev pub bare_app : App
bare_app = record (new_app (codes "etcs")) {
  top = record ((new_app (codes "etcs")).top) {
    no_binary_name = true;
    disable_help_flag = true;
    disable_help_subcommand = true;
    subcommand_required = true;
  };
}

abbrev pub etcs_app : App
etcs_app = with_subcommand (with_subcommand (with_subcommand (with_subcommand bare_app decode_app.top) format_app.top) run_app.top) journal_app.top

-- a command with its values
pub data EtcsValues : Type 0 where
  decode : Text → EtcsValues
  format : Text → ℕ → EtcsValues
  run : Text → Text → EtcsValues
  journal : Text → EtcsValues

abbrev pub values_of : EtcsCommand → EtcsValues
values_of (command.Decode hex) = decode hex.now
values_of (command.Format image blocks) = format image.now blocks
values_of (command.Run scenario image) = run scenario.now image.now
values_of (command.Journal image) = journal image.now

-- what the matches of each command ask for

abbrev pub decode_values : List Row → Option EtcsValues
decode_values rows = option_map decode (first_of (codes "HEX") rows)

abbrev pub format_values : List Row → Option EtcsValues
format_values rows = option_and_then (λ image. option_map (format image) (option_and_then (number_of most_u32) (first_of (codes "BLOCKS") rows)))
    (first_of (codes "IMAGE") rows)

abbrev pub run_values : List Row → Option EtcsValues
run_values rows = option_and_then (λ scenario. option_map (run scenario) (first_of (codes "IMAGE") rows)) (first_of (codes "SCENARIO") rows)

abbrev pub journal_values : List Row → Option EtcsValues
journal_values rows = option_map journal (first_of (codes "IMAGE") rows)

abbrev pub named_values : Text → List Row → Option EtcsValues
named_values name rows = if bytes_eq name (codes "decode") then decode_values rows
    else (if bytes_eq name (codes "format") then format_values rows
    else (if bytes_eq name (codes "run") then run_values rows
    else (if bytes_eq name (codes "journal") then journal_values rows else None)))

abbrev pub matched_values : Option (Text × List Row) → Option EtcsValues
matched_values = option_and_then (λ found. named_values found.0 found.1)

-- what the arguments ask for: something where the parser finds no fault in them and BLOCKS is a number
unfoldable pub etcs_values : List Text → Option EtcsValues
etcs_values args = if has_no_fault (fault_of etcs_app args) then matched_values (subcommand_of etcs_app args) else None
