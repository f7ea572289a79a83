use Rattle.std.proofs.Common.{◌≡◌, pos, negsuc, ◌+ℤ◌, ◌*ℤ◌, ◌≤ℤ◌, ◌<◌, ◌/◌, neg_ℤ, ℤ, to_z, of_z, w32, refl, ap, ◌∙◌, arith}
use Rattle.std.specs.Int.{int_div_euclid, int_max}
use Rattle.std.specs.Int.RustNames.{unsigned_abs}
use Rattle.std.proofs.lemmas.Int.{ints}
use Rattle.units.specs.Stretches.{natural}
use Rattle.units.specs.Limits.{IsPermille}
use Rattle.brakes.proofs.deceleration.slowing_at.Goals as goal

at_least_none : (z : ℤ) → unsigned_abs (int_max z (pos 0)) ≡ natural z
at_least_none (pos n) = grind (arith, ints)
at_least_none (negsuc n) = refl

change_is_small : (z : ℤ) → neg_ℤ (pos 249_174) ≤ℤ z → z ≤ℤ pos 249_174 →
    (neg_ℤ (pos 250) ≤ℤ int_div_euclid z (pos 1000)) × (int_div_euclid z (pos 1000) ≤ℤ pos 249)
change_is_small (pos n) low high =
    let few : n < 249_175 = omega (arith, ints) in
    (omega (arith, ints), omega (arith, ints))
change_is_small (negsuc n) low high =
    let few : n < 249_174 = omega (arith, ints) in
    let part : n / 1000 < 250 = omega arith in
    (omega (arith, ints), omega (arith, ints))

pub returns-clause-value : goal.returns-clause-value
returns-clause-value c =
    let limits : IsPermille c.args.gradient = rw c.get.ensures.value at c.get.ensures.limits in
    let gradient : c.from.result ≡ c.args.gradient = omega (arith, ints) in
    let product : to_z w32 (of_z w32 (pos 981 *ℤ to_z w32 (of_z w32 c.from.result))) ≡ pos 981 *ℤ c.args.gradient = omega (arith, ints) in
    let change : c.div_euclid-change.result ≡ int_div_euclid (pos 981 *ℤ c.args.gradient) (pos 1000) =
    c.div_euclid-change.ensures ∙ ap (λ (z : ℤ). int_div_euclid z (pos 1000)) product in
    let small = change_is_small (pos 981 *ℤ c.args.gradient) (omega (arith, ints)) (omega (arith, ints)) in
    let low : neg_ℤ (pos 250) ≤ℤ c.div_euclid-change.result = rw change small.0 in
    let high : c.div_euclid-change.result ≤ℤ pos 249 = rw change small.1 in
    let at : ℤ = pos c.args.deceleration +ℤ c.div_euclid-change.result in
    let sum : to_z w32 (of_z w32 (to_z w32 (of_z w32 c.from-2.result) +ℤ to_z w32 (of_z w32 c.div_euclid-change.result))) ≡ at =
    omega (arith, ints) in
    let cast : to_z w32 (of_z w32 c.max.result) ≡ c.max.result = omega (arith, ints) in
    ap unsigned_abs (cast ∙ c.max.ensures.value ∙ ap (λ (z : ℤ). int_max z (pos 0)) sum)
    ∙ at_least_none at
    ∙ ap (λ (z : ℤ). natural (pos c.args.deceleration +ℤ z)) change
