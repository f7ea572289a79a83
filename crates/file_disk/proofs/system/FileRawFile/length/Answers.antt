use Rattle.file_disk.proofs.SystemLemmas.{never_in_model}
use Rattle.file_disk.proofs.system.FileRawFile.length.Goals as goal

pub returns-in-Ok : goal.returns-in-Ok
returns-in-Ok c = λ honest. absurd (never_in_model c.args.self.now honest)
