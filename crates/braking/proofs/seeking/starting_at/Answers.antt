use Rattle.std.proofs.Common.{◌≡◌, ◌-ℤ◌, ◌≤◌, ◌≤ℤ◌, ◌*◌, ◌∙◌, arith}
use Rattle.std.specs.Int.{int_max}
use Rattle.std.proofs.lemmas.Int.{ints}
use Rattle.std.proofs.Math.Nat.{mul-le-mul_left}
use Rattle.units.specs.Stretches.{natural}
use Rattle.units.proofs.Later.{max_is}
use Rattle.braking.proofs.Naturals.{parts}
use Rattle.braking.proofs.seeking.starting_at.Goals as goal

pub starts_evenly-requires : goal.starts_evenly-requires
starts_evenly-requires c =
    let stretch = c.args.stretch.now in
    let start = c.in-Some.start in
    let from = c.max-from.result in
    let is : from ≡ int_max start stretch.initial.from = c.max-from.ensures ∙ max_is start stretch.initial.from in
    let sooner : stretch.initial.from ≤ℤ from = grind (arith, ints) in
    let before : from ≤ℤ stretch.sum.from = grind (arith, ints) in
    let whole = parts stretch.initial.from from stretch.sum.from sooner before in
    let less : natural (stretch.sum.from -ℤ from) ≤ natural (stretch.sum.from -ℤ stretch.initial.from) = omega (arith, whole) in
    let product : 2592 * stretch.slowing * natural (stretch.sum.from -ℤ from) ≤ 2592 * stretch.slowing * natural (stretch.sum.from -ℤ stretch.initial.from) =
    mul-le-mul_left (2592 * stretch.slowing) less in
    record { small = c.requires.small; ordered = before; little = omega (arith, product, c.requires.little) }
