use Rattle.std.proofs.Common.{◌∙◌, ◌*◌, arith}
use Rattle.file_disk.specs.Files.{bytes_of}
use Rattle.file_disk.proofs.Parts.{zeros_filled, zeros_held}
use Rattle.file_disk.proofs.filedisk.FileDisk.fill.Goals as goal

pub returns-clause-zeros : goal.returns-clause-zeros
returns-clause-zeros g c = λ honest.
    let first = c.set_length.ensures.honest ∙ honest in
    let second = c.set_length-2.ensures.honest ∙ first in
    let third = c.write_zeros.ensures.honest ∙ second in
    let zeros = zeros_filled (bytes_of (g.F.RawFile.state c.args.file)) (bytes_of (g.F.RawFile.state c.set_length.new.self)) (bytes_of (g.F.RawFile.state c.set_length-2.new.self)) c.args.sectors (c.args.sectors * 512)
    (c.in_ok-set_length.ensures.resized honest) (c.in_ok-set_length-2.ensures.resized first) (omega arith) in
    zeros_held (bytes_of (g.F.RawFile.state c.sync.new.self)) c.args.sectors (c.sync.ensures.bytes third ∙ c.in_ok-write_zeros.ensures.zeros second zeros)
