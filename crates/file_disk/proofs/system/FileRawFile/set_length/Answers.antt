use Rattle.file_disk.proofs.SystemLemmas.{never_in_model}
use Rattle.file_disk.proofs.system.FileRawFile.set_length.Goals as goal

pub returns-clause-resized : goal.returns-clause-resized
returns-clause-resized c = λ honest. absurd (never_in_model c.args.self.now honest)
