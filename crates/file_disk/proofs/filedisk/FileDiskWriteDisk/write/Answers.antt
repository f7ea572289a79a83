use Rattle.std.proofs.Common.{◌∙◌, ◌+◌, ◌*◌, ◌≤◌, length, ap, rules}
use Rattle.file_disk.specs.Files.{bytes_of}
use Rattle.file_disk.proofs.Parts.{written_holds, handed_on}
use Rattle.file_disk.proofs.filedisk.FileDiskWriteDisk.write.Goals as goal

pub returns-clause-written : goal.returns-clause-written
returns-clause-written g c = λ honest.
    let file = bytes_of (g.F.RawFile.state c.args.self.now.file) in
    let within : 512 * c.args.first + length c.args.bytes.now ≤ length file = search rules in
    handed_on c.write_all-answer.result c.counted.result c.counted.ensures.answer (c.write_all-answer.ensures.written honest within)
    (λ is. written_holds file c.args.bytes.now _ c.args.first within c.requires.whole (ap (λ f. bytes_of (g.F.RawFile.state f)) c.counted.ensures.file ∙ is))
