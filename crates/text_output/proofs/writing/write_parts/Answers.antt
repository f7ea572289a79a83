use Rattle.text_output.proofs.writing.write_parts.Goals as goal
use Rattle.text_output.proofs.Texts.{parts-flat}

pub returns : goal.returns
returns g c = rw (parts-flat c.args.form c.args.parts.now) at c.write_each_part.ensures
