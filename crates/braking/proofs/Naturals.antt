-- Numbers of centimetres between places.
use Rattle.std.proofs.Common.{◌≡◌, ℕ, ◌*◌, ◌≤◌, ◌<◌, ◌^◌, ◌+◌, ℤ, pos, negsuc, ◌+ℤ◌, ◌-ℤ◌, ◌≤ℤ◌, ◌<ℤ◌, refl, arith}
use Rattle.std.specs.Int.RustNames.{unsigned_abs}
use Rattle.std.proofs.lemmas.Int.{ints, by_lt_z}
use Rattle.std.proofs.Math.Nat.{mul-le-mul}
use Rattle.track_store.proofs.Jumps.{natural_is, natural_none}
use Rattle.units.specs.Stretches.{natural}

pub absolute_is : (z : ℤ) → pos 0 ≤ℤ z → unsigned_abs z ≡ natural z
absolute_is (pos n) h = refl
absolute_is (negsuc n) h = absurd (omega (arith, ints))

-- what two places within 2^42 are apart
pub apart : (from to : ℤ) → from ≤ℤ to → (pos 0 ≤ℤ (from +ℤ pos (2 ^ 42))) → to ≤ℤ pos (2 ^ 42) → natural (to -ℤ from) ≤ 2 ^ 43
apart from to a b d =
    let n = natural_is (to -ℤ from) (omega (arith, ints)) in
    omega (arith, ints, n)

pub product_fits : (a n : ℕ) → a ≤ 1_423_008 → n ≤ 2 ^ 43 → a * n < 2 ^ 64
product_fits a n h k =
    let most : a * n ≤ 1_423_008 * 2 ^ 43 = mul-le-mul h k in
    omega (arith, most)

-- a stretch in two parts
pub parts : (from middle to : ℤ) → from ≤ℤ middle → middle ≤ℤ to →
    natural (to -ℤ from) ≡ natural (middle -ℤ from) + natural (to -ℤ middle)
parts from middle to a b =
    let whole = natural_is (to -ℤ from) (omega (arith, ints)) in
    let first = natural_is (middle -ℤ from) (omega (arith, ints)) in
    let second = natural_is (to -ℤ middle) (omega (arith, ints)) in
    omega (arith, ints, whole, first, second)

pub none_between : (place : ℤ) (to : ℤ) → to ≤ℤ place → natural (to -ℤ place) ≡ 0
none_between place to h = natural_none (to -ℤ place) (omega (arith, ints))

-- .. whichever of them lies farther
pub apart_at_most : (from to : ℤ) → (pos 0 ≤ℤ (from +ℤ pos (2 ^ 42))) → to ≤ℤ pos (2 ^ 42) → natural (to -ℤ from) ≤ 2 ^ 43
apart_at_most from to a b =
    by_lt_z to from (λ (less : to <ℤ from). omega (arith, none_between from to (omega (arith, ints, less))))
    (λ (more : from ≤ℤ to). apart from to more a b)
