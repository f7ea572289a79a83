-- A file of the operating system (this project's profile).
use Rattle.std.specs.Prelude.{◌≡◌, Bool, false, [], refl}
use Rattle.std.specs.declared.fs.File.{File}
use Rattle.file_disk.specs.declared.readonly.ReadOnlyFile.{ReadOnlyFile}
use Rattle.file_disk.specs.Files.{FileState}

-- Whether it keeps to the model. No call of the system shows that, so nothing is promised by it: it is reported false.
pub keeps_to_model : File → Bool
keeps_to_model file = false

-- so what holds of an honest file is said of none of the system's
pub not_in_model : (file : File) → keeps_to_model file ≡ false
unfolding keeps_to_model
not_in_model file = refl

-- what contracts see of it
abbrev pub system_state : File → FileState
system_state file = record { honest = keeps_to_model file; clock = 0; at = λ _. record { bytes = []; is_open = λ _. false } }

-- of one that is only read the same
abbrev pub read_only_state : ReadOnlyFile → FileState
read_only_state only = system_state only.file
