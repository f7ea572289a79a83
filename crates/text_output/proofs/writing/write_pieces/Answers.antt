use Rattle.text_output.proofs.writing.write_pieces.Goals as goal
use Rattle.text_output.proofs.Texts.{texts-flat}

pub returns : goal.returns
returns g c = rw (texts-flat c.args.form c.args.pieces.now) at c.write_each.ensures
