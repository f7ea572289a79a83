-- The exit status of `etcs_lab` (this project's profile).
use Rattle.std.specs.Prelude.{ℕ, Bool, false, true}
use Rattle.std.specs.declared.io.ErrorKind.{ErrorKind}
use Rattle.std.specs.declared.io.ErrorKind.TheVariants.{OutOfMemory}
use Rattle.clap.specs.declared.error.kind.ErrorKind.{ErrorKind as Kind}
use Rattle.clap.specs.declared.error.kind.ErrorKind.TheVariants as kind
use Rattle.command_line.specs.declared.lab_status.Status.{Status}
use Rattle.command_line.specs.declared.lab_status.Status.TheVariants.{Whole, Refused, Usage, Device, Damaged, Unwritten}

abbrev pub code_of : Status → ℕ
code_of Whole = 0
code_of Refused = 1
code_of Usage = 2
code_of Device = 3
code_of Damaged = 4
code_of Unwritten = 1

-- that of a file which can't be read, by the kind of the error
abbrev pub unread_status : ErrorKind → Status
unread_status OutOfMemory = Refused
unread_status _ = Device

-- help or the version was asked for
abbrev pub is_help : Kind → Bool
is_help kind.DisplayHelp = true
is_help kind.DisplayVersion = true
is_help _ = false

-- that of arguments that are no command
abbrev pub wrong_status : Kind → Status
wrong_status kind.OutOfMemory = Refused
wrong_status _ = Usage
