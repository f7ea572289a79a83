use Rattle.track_picture.proofs.ByLine.{each_by_its_line}
use Rattle.track_picture.proofs.ending.each_by_its_line.Goals as goal

pub returns : goal.returns
returns c = each_by_its_line
