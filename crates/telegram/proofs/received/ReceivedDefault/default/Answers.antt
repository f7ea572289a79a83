use Rattle.std.proofs.Common.{refl, lit≤}
use Rattle.telegram.specs.Walks.{packets_in}
use Rattle.telegram.proofs.received.ReceivedDefault.default.Goals as goal

pub invariant_of-result : goal.invariant_of-result
unfolding packets_in
invariant_of-result c = rw c.copy_of.ensures (record { small = lit≤ tt; header_first = lit≤ tt; few = lit≤ tt; counted = refl })

pub returns : goal.returns
unfolding packets_in
returns c = refl
