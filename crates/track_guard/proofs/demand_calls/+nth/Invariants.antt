use Rattle.std.proofs.Common.{length}
use Rattle.track_guard.proofs.demand_calls.+nth.Given as goal

abbrev pub decreases-nth : goal.decreases-nth
decreases-nth l = length l.demands.now
