use Rattle.std.proofs.Common.{◌≡◌, ℤ, ◌+◌, ◌<◌, ◌^◌, ◌-ℤ◌, ◌≤ℤ◌, ◌<ℤ◌, ap, ◌∙◌, arith, rules}
use Rattle.std.proofs.lemmas.Int.{ints, by_lt_z}
use Rattle.units.specs.Stretches.{natural}
use Rattle.braking.proofs.Naturals.{parts}
use Rattle.braking.proofs.Braked.{braked_over, summed_little, reached_whole, taken_off_is}
use Rattle.braking.proofs.summed.Summed.initial.Goals as goal

pub gone_on-before-requires-clause-near : goal.gone_on-before-requires-clause-near
gone_on-before-requires-clause-near g c =
    let whole = parts c.args.from c.args.self.from c.args.self.to c.requires.ordered c.requires.summed.0 in
    rw c.none.ensures.from (omega (arith, whole, c.requires.near))

pub overflow_add-result : goal.overflow_add-result
overflow_add-result g c =
    let gradient = g.P.Profile.value c.args.gradient.now in
    let before = c.gone_on-before.ensures in
    let sum = c.gone_on-before.result in
    let whole = parts c.args.from c.args.self.from c.args.self.to c.requires.ordered c.requires.summed.0 in
    let first = parts sum.from sum.to c.args.self.from before.summed.0 before.within in
    let begins : sum.from ≡ c.args.from = before.from ∙ c.none.ensures.from in
    let all : natural (c.args.self.from -ℤ sum.from) ≡ natural (c.args.self.from -ℤ c.args.from) = ap (λ (z : ℤ). natural (c.args.self.from -ℤ z)) begins in
    let fits : sum.taken_off + c.args.self.taken_off < 2 ^ 64 =
    omega (
      arith,
      whole,
      first,
      summed_little gradient c.args.deceleration sum before.summed,
      all,
      summed_little gradient c.args.deceleration c.args.self c.requires.summed,
      c.requires.near,
    ) in
    search (rules, fits)

pub returns-clause-summed : goal.returns-clause-summed
returns-clause-summed g c =
    let gradient = g.P.Profile.value c.args.gradient.now in
    let before = c.gone_on-before.ensures in
    let sum = c.gone_on-before.result in
    let whole = parts c.args.from c.args.self.from c.args.self.to c.requires.ordered c.requires.summed.0 in
    let begins : sum.from ≡ c.args.from = before.from ∙ c.none.ensures.from in
    let ends : sum.to ≡ c.args.self.from =
    reached_whole gradient c.args.deceleration c.args.from c.args.self.from sum (omega (arith, whole, c.requires.near)) begins before.within before.reached before.summed in
    let first = taken_off_is gradient c.args.deceleration c.args.from c.args.self.from sum begins ends before.summed in
    let over = braked_over gradient c.args.deceleration c.args.from c.args.self.from c.args.self.to c.requires.ordered c.requires.summed.0 in (
      omega (arith, ints, c.requires.ordered, c.requires.summed.0),
      omega (arith, over, first, c.requires.summed.1),
      λ (place : ℤ) a b. by_lt_z place c.args.self.from
          (λ (sooner : place <ℤ c.args.self.from). before.summed.2 place (omega (arith, ints, begins, a)) (omega (arith, ints, ends, sooner)))
          (λ (later : c.args.self.from ≤ℤ place). c.requires.summed.2 place later b),
    )
