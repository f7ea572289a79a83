use Rattle.std.proofs.Common.{◌≡◌, drop}
use Rattle.track_store.proofs.Limiting.{least_met}
use Rattle.track_store.proofs.restrictions.Restrictions.least.Given as goal

abbrev pub invariant-loop-restriction : goal.invariant-loop-restriction
invariant-loop-restriction l =
    least_met l.first l.train l.limit (drop l.restriction-index l.restriction-items)
    ≡ least_met l.first l.train l.initial.limit l.restriction-items
