use Rattle.std.proofs.Common.{◌≡◌, drop}
use Rattle.track_store.proofs.Reading.{given_from}
use Rattle.track_store.proofs.fact.Fact.at.Given as goal

abbrev pub invariant-loop-step : goal.invariant-loop-step
invariant-loop-step g l =
    given_from l.place l.value (drop l.step-index l.step-items) ≡ given_from l.place l.initial.value l.step-items
