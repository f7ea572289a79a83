use Rattle.simulator.proofs.TextAnswers.{not_both, one_life, one_fault}
use Rattle.simulator.proofs.laws.one_answer.Goals as goal

pub returns : goal.returns
returns c = record { either = not_both; life = one_life; fault = one_fault }
