use Rattle.std.proofs.Common.{◌≡◌, drop}
use Rattle.track_store.specs.Changes.{last_step}
use Rattle.track_store.proofs.fact.Fact.last_change.Given as goal

abbrev pub invariant-loop-step : goal.invariant-loop-step
invariant-loop-step g l =
    last_step l.place l.last (drop l.step-index l.step-items) ≡ last_step l.place l.initial.last l.step-items
