use Rattle.std.proofs.Common.{◌≡◌, ◌≤◌, ◌*◌, ◌-ℤ◌, to_z, of_z, w64, ap, ◌∙◌, arith, rules}
use Rattle.std.specs.Int.RustNames.{unsigned_abs}
use Rattle.std.proofs.lemmas.Int.{ints}
use Rattle.units.specs.Stretches.{natural}
use Rattle.braking.proofs.Naturals.{absolute_is, apart, product_fits}
use Rattle.braking.proofs.slowing.taken_off_evenly.Goals as goal

pub overflow_mul-result-2 : goal.overflow_mul-result-2
overflow_mul-result-2 c =
    let cast : to_z w64 (of_z w64 (to_z w64 (of_z w64 c.get.result) -ℤ to_z w64 (of_z w64 c.get-2.result))) ≡ c.args.to -ℤ c.args.from =
    omega (arith, ints) in
    let count = ap unsigned_abs cast ∙ absolute_is (c.args.to -ℤ c.args.from) (omega (arith, ints)) in
    let few = apart c.args.from c.args.to c.requires.ordered (omega (arith, ints)) (omega (arith, ints)) in
    let factor : 2592 * c.from.result ≤ 1_423_008 = omega arith in
    let fits = product_fits (2592 * c.from.result) (natural (c.args.to -ℤ c.args.from)) factor few in
    rw count (search (rules, fits))

pub returns : goal.returns
returns c =
    let cast : to_z w64 (of_z w64 (to_z w64 (of_z w64 c.get.result) -ℤ to_z w64 (of_z w64 c.get-2.result))) ≡ c.args.to -ℤ c.args.from =
    omega (arith, ints) in
    let count = ap unsigned_abs cast ∙ absolute_is (c.args.to -ℤ c.args.from) (omega (arith, ints)) in
    (λ i. 2592 * c.from.ensures i * count i)
