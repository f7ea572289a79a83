use Rattle.track_picture.proofs.ByLine.{modes_delete_by_the_table}
use Rattle.track_picture.proofs.ending.modes_delete_by_the_table.Goals as goal

pub returns : goal.returns
returns c = modes_delete_by_the_table
