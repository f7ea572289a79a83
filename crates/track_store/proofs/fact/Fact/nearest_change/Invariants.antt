use Rattle.std.proofs.Common.{◌≡◌, drop}
use Rattle.track_store.specs.Changes.{nearest_step}
use Rattle.track_store.proofs.fact.Fact.nearest_change.Given as goal

abbrev pub invariant-loop-step : goal.invariant-loop-step
invariant-loop-step g l =
    nearest_step l.place l.nearest (drop l.step-index l.step-items) ≡ nearest_step l.place l.initial.nearest l.step-items
