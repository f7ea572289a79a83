use Rattle.std.proofs.Common.{◌≡◌, ◌+◌, ◌≤◌, ℤ, ◌≤ℤ◌, ◌<ℤ◌, drop, length}
use Rattle.std.specs.Prelude.{None, vec_len, vec_capacity}
use Rattle.track_store.specs.Facts.{passed, last_value}
use Rattle.track_store.specs.Segments.{value_of_segments, IsKept}
use Rattle.track_store.proofs.segments.hold_steps.Given as goal

-- below the first place nothing changes, from there on the rest of the steps give the value of all
abbrev pub invariant-loop-step : goal.invariant-loop-step
invariant-loop-step g l =
    ((place : ℤ) → place <ℤ l.start → value_of_segments l.segments.items place ≡ value_of_segments l.initial.segments.items place)
    × ((place : ℤ) → l.start ≤ℤ place →
    last_value (value_of_segments l.segments.items place) (passed place (drop l.step-index l.steps)) ≡ last_value None (passed place l.steps))
    × IsKept l.segments.items
    × (vec_len l.segments + length l.steps + 1 ≤ vec_capacity l.segments + l.step-index)
    × (vec_len l.segments ≤ vec_len l.initial.segments + l.step-index)
    × (vec_capacity l.segments ≡ vec_capacity l.initial.segments)
