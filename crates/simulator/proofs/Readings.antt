-- Readings, one after another.
use Rattle.std.proofs.Common.{◌≡◌, ℕ, ◌+◌, pos, refl, add-one}
use Rattle.simulator.specs.Course.{Run, full_readings, accepted, reading}

pub full_readings-none : (speed : ℕ) (r : Run) → full_readings 0 speed r ≡ r
unfolding full_readings
full_readings-none speed r = refl

pub full_readings-more : (n speed : ℕ) (r : Run) → full_readings (n + 1) speed r ≡ accepted (reading (pos 10_000) speed) (full_readings n speed r)
unfolding full_readings
full_readings-more n speed r = rw (add-one n) refl
