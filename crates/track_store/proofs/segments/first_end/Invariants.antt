use Rattle.std.proofs.Common.{◌≡◌, ℤ, drop}
use Rattle.std.specs.Prelude.{◌||◌, is_none}
use Rattle.std.specs.List.{list_any}
use Rattle.track_store.specs.Facts.{passed}
use Rattle.track_store.specs.Segments.{is_reached}
use Rattle.track_store.proofs.segments.first_end.Given as goal

-- the first place so far, or an end mark among the rest of the steps
abbrev pub invariant-loop-step : goal.invariant-loop-step
invariant-loop-step g l =
    (place : ℤ) → (is_reached place l.first || list_any (λ step. is_none step.value) (passed place (drop l.step-index l.steps)))
    ≡ list_any (λ step. is_none step.value) (passed place l.steps)
