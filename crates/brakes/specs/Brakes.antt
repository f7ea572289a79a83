-- What a train's brakes do (this project's profile). Places are in centimetres, speeds in metres per hour,
-- decelerations in cm/s^2, gradients in per mille, uphill positive, reaction times in milliseconds.
use Rattle.std.specs.Prelude.{ℕ, ◌*◌, ℤ, pos, ◌+ℤ◌, ◌*ℤ◌, Option, None, Some}
use Rattle.std.specs.Int.{div_ceil, int_div_euclid}
use Rattle.units.specs.Stretches.{natural}

-- the deceleration on a gradient, which 1 per mille changes by 0.981 cm/s^2, rounded down; never below 0, and 0 where
-- no gradient is known
abbrev pub slowing_on : ℕ → Option ℤ → ℕ
slowing_on deceleration None = 0
slowing_on deceleration (Some gradient) =
    natural (pos deceleration +ℤ int_div_euclid (pos 981 *ℤ gradient) (pos 1000))

-- the way that a train runs before its brakes act, rounded up: 36,000 m/h in 1 ms are 1 cm
abbrev pub reaction_way : ℕ → ℕ → ℕ
reaction_way reaction speed = div_ceil (speed * reaction) 36_000
