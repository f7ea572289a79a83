use Rattle.std.proofs.Common.{rules, ◌≡◌, ◌%◌, length}
use Rattle.image_calls.proofs.Reading.{copied_sectors}
use Rattle.image_calls.proofs.image_disk.ImageDiskDisk.read.Goals as goal

pub returns-clause-bytes : goal.returns-clause-bytes
returns-clause-bytes c = λ honest i below.
    let whole : length c.copy_from_slice.new.self % 512 ≡ 0 = search rules in
    copied_sectors c.args.self.now.bytes c.copy_from_slice.new.self c.args.first (length c.copy_from_slice.new.self) whole (search rules) i below
