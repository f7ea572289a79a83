use Rattle.std.proofs.Common.{length}
use Rattle.file_disk.specs.Files.{bytes_of}
use Rattle.file_disk.proofs.Parts.{read_holds, handed_on}
use Rattle.file_disk.proofs.filedisk.FileDiskDisk.read.Goals as goal

pub returns-clause-bytes : goal.returns-clause-bytes
returns-clause-bytes g c = λ honest.
    handed_on c.read_all-answer.result c.counted.result c.counted.ensures.answer (c.read_all-answer.ensures honest)
    (λ is. read_holds (bytes_of (g.F.RawFile.state c.args.self.now.file)) c.read_all-answer.new.bytes c.args.first (length c.args.bytes.now) c.read_all-answer.auto.bytes c.requires.whole is)
