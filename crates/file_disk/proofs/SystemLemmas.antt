-- What is not promised of a file of the system.
use Rattle.std.proofs.Common.{◌≡◌, true, sym, ◌∙◌, true≢false}
use Rattle.std.specs.declared.fs.File.{File}
use Rattle.file_disk.specs.SystemFile.{keeps_to_model, not_in_model}

-- none is known to be honest
pub never_in_model : (file : File) → keeps_to_model file ≡ true → ⊥
never_in_model file honest = true≢false (sym honest ∙ not_in_model file)
