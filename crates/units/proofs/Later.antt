-- The later of two places, as the standard library answers it.
use Rattle.std.proofs.Common.{◌≡◌, ℤ, arith}
use Rattle.std.specs.Int.{int_max}
use Rattle.std.specs.Ordering.{ord_max}
use Rattle.std.proofs.lemmas.Int.{ints}
use Rattle.units.specs.contracts.cm.CmOrd.TheImpl.{cmp-value}

pub max_is : (a b : ℤ) → ord_max cmp-value.it a b ≡ int_max a b
max_is a b = grind (arith, ints)
