use Rattle.file_disk.proofs.SystemLemmas.{never_in_model}
use Rattle.file_disk.proofs.system.FileRawFile.read_at.Goals as goal

pub returns-in-Ok-clause-bytes : goal.returns-in-Ok-clause-bytes
returns-in-Ok-clause-bytes c = λ honest. absurd (never_in_model c.args.self.now honest)
