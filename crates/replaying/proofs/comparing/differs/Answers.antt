use Rattle.std.proofs.Common.{rules}
use Rattle.replaying.proofs.Later.{by_situation}
use Rattle.replaying.proofs.comparing.differs.Goals as goal

pub returns : goal.returns
returns c = by_situation c.args.reported.now c.args.answer.now c.situation_differs.result (search rules) (search rules) c.situation_differs.ensures
