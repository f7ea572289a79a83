-- Whole square roots, by Newton's way.
use Rattle.std.proofs.Common.{◌≡◌, ℕ, zero, suc, ◌+◌, ◌-◌, ◌*◌, ◌/◌, ◌<◌, ◌≤◌, ◌⊎◌, inl, inr, arith}
use Rattle.std.proofs.Math.Nat.{mul-le-mul, div-lt_iff_lt-mul, lt-mul-div-succ}

-- two numbers whose sum is at most twice another one have at most its square as their product
nearer_halves : (r p d s : ℕ) → s ≡ r + d → p ≤ r + 2 * d → r * p ≤ s * s
nearer_halves r p d s is h =
    let product : r * p ≤ r * (r + 2 * d) = mul-le-mul {n₁ = r} {m₁ = p} {n₂ = r} {m₂ = r + 2 * d} (omega arith) h in
    let square : (r + d) * (r + d) ≡ r * (r + 2 * d) + d * d = omega arith in
    rw is (omega (arith, product, square))

halves : (r p s : ℕ) → r + p ≤ 2 * s → r * p ≤ s * s
halves r p s h =
    let either : (r ≤ s) ⊎ (p ≤ s) = grind arith in
    elim either [
      | inl a ↦ nearer_halves r p (s - r) s (omega arith) (omega arith)
      | inr b ↦ (let swap : p * r ≡ r * p = omega arith in omega (arith, swap, nearer_halves p r (s - p) s (omega arith) (omega arith)))
    ]

-- the half of a number and of its quotient, rounded down, is no less than the whole root
pub half_above : (n r q m : ℕ) → n < r * (q + 1) → r + q < 2 * m + 2 → n < (m + 1) * (m + 1)
half_above n r q m below half = omega (arith, halves r (q + 1) (m + 1) (omega arith))

positive : (n r : ℕ) → n < r * r → 0 < r
positive n zero h = absurd (omega (arith, h))
positive n (suc r) h = omega arith

-- a step of the way: from a number above the root to a lesser one that is no less than the root
pub step_down : (n r : ℕ) → n < r * r → ((r + n / r) / 2 < r) × (n < ((r + n / r) / 2 + 1) * ((r + n / r) / 2 + 1))
step_down n r h =
    let some = positive n r h in
    let q : ℕ = n / r in
    let quotient : q < r = (div-lt_iff_lt-mul {k = r} {x = n} {y = r} some).1 h in
    let below : n < r * (q + 1) = lt-mul-div-succ n {b = r} some in
    (omega arith, half_above n r q ((r + q) / 2) below (omega arith))

pub square_less : (v w : ℕ) → w ≤ v → w * w ≤ v * v
square_less v w h = grind arith

pub root_less : (v w : ℕ) → w * w < v * v → w < v
root_less v w h = grind (arith, square_less w v)

pub square_greater : (u v : ℕ) → u < v → u * u < v * v
square_greater u v h =
    let next : (u + 1) * (u + 1) ≡ u * u + 2 * u + 1 = omega arith in
    omega (arith, next, square_less v (u + 1) (omega (arith, h)))
