-- A sum and a difference of two places, as they are computed in 64 bits.
use Rattle.std.proofs.Common.{◌≡◌, ℤ, ◌+ℤ◌, ◌-ℤ◌, arith}
use Rattle.std.proofs.lemmas.Int.{ints}
use mir.Syntax.{w64}
use mir.Val.{to_z, of_z}
use Rattle.units.specs.Limits.{IsCm}

pub sum_fits : {x y a b : ℤ} → x ≡ a → y ≡ b → IsCm x → IsCm y → to_z w64 (of_z w64 (to_z w64 (of_z w64 x) +ℤ to_z w64 (of_z w64 y))) ≡ a +ℤ b
sum_fits one other here there = omega (arith, ints)

pub difference_fits : {x y a b : ℤ} → x ≡ a → y ≡ b → IsCm x → IsCm y → to_z w64 (of_z w64 (to_z w64 (of_z w64 x) -ℤ to_z w64 (of_z w64 y))) ≡ a -ℤ b
difference_fits one other here there = omega (arith, ints)
