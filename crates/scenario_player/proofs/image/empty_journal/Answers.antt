use Rattle.std.proofs.Common.{refl}
use Rattle.scenario_player.proofs.image.empty_journal.Goals as goal

pub returns-in-Ok-clause-empty : goal.returns-in-Ok-clause-empty
returns-in-Ok-clause-empty c = record {
  emptied = c.in-Ok.ensures.written refl;
  rest = λ account none. c.in-Ok.ensures.formatted account none refl;
}
