-- What the arguments of `etcs` ask for, by what its parser answers.
use Rattle.std.proofs.Common.{◌≡◌, ◌∙◌, [], List, true, refl, sym, ap}
use Rattle.std.specs.Prelude.{Option, None}
use Rattle.clap.specs.Walk.{Row}
use Rattle.clap.specs.Words.{HasKind, Text, fault_of, is_simple, is_simple_and_free, kind_of, subcommand_of}
use Rattle.clap.specs.declared.error.Error.{Error}
use Rattle.clap.specs.declared.error.kind.ErrorKind.TheVariants as kind
use Rattle.clap.proofs.OnLiterals.{clap_on_literals}
use Rattle.command_line.proofs.Faults.{with_fault, without_fault}
use Rattle.command_line.specs.EtcsArguments.{etcs_app, etcs_values, matched_values}

pub etcs_is_simple : is_simple etcs_app ≡ true
unfolding clap_on_literals
etcs_is_simple = refl

pub etcs_is_free : is_simple_and_free etcs_app ≡ true
unfolding clap_on_literals
etcs_is_free = refl

pub values_found : (args : List Text) (found : Option (Text × List Row)) → fault_of etcs_app args ≡ [] → found ≡ subcommand_of etcs_app args → etcs_values args ≡ matched_values found
unfolding etcs_values
values_found args found none is = without_fault (fault_of etcs_app args) (matched_values (subcommand_of etcs_app args)) None none ∙ ap matched_values (sym is)

pub values_refused : (args : List Text) (e : Error) → HasKind (fault_of etcs_app args) e → (kind_of e ≡ kind.OutOfMemory → ⊥) → etcs_values args ≡ None
unfolding etcs_values
values_refused args e h other = with_fault (fault_of etcs_app args) (matched_values (subcommand_of etcs_app args)) None e h other
