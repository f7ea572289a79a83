use Rattle.std.proofs.Common.{arith}
use Rattle.std.proofs.lemmas.Int.{ints}
use Rattle.linking.proofs.judgement.GroupRead.max_front.Goals as goal

pub returns-clause-value : goal.returns-clause-value
returns-clause-value c = omega (arith, ints)

pub returns-clause-near : goal.returns-clause-near
returns-clause-near c = omega (arith, ints)
