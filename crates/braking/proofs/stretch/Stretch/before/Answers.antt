use Rattle.std.proofs.Common.{ℕ, ◌≤◌, ◌^◌, ℤ, ◌-ℤ◌, ◌≤ℤ◌, ◌<ℤ◌, ap, sym, ◌∙◌, arith}
use Rattle.std.specs.Prelude.{Option}
use Rattle.std.proofs.lemmas.Int.{ints}
use Rattle.units.specs.Stretches.{natural}
use Rattle.brakes.specs.Brakes.{slowing_on}
use Rattle.braking.specs.Braking.{IsSummed}
use Rattle.braking.specs.Sums.{IsEvenBefore}
use Rattle.braking.specs.declared.summed.Summed.{Summed}
use Rattle.braking.proofs.Naturals.{parts}
use Rattle.braking.proofs.Braked.{IsEven, initial_summed, initial_little}
use Rattle.braking.proofs.stretch.Stretch.before.Goals as goal

-- a stretch after a place that lies near enough may be begun
may_begin : (gradient : ℤ → Option ℤ) (deceleration slowing : ℕ) (sum : Summed) (least from : ℤ) → IsSummed gradient deceleration sum → slowing ≤ 549 →
    least ≤ℤ from → from <ℤ sum.from → natural (sum.to -ℤ least) ≤ 2 ^ 43 → IsEvenBefore slowing from sum
may_begin gradient deceleration slowing sum least from summed small within before near =
    let ordered : from ≤ℤ sum.from = omega (arith, ints, before) in
    let few : natural (sum.to -ℤ from) ≤ 2 ^ 43 = omega (arith, parts least from sum.to within (omega (arith, ints, ordered, summed.0)), near) in
    record { small = small; ordered = ordered; little = initial_little gradient deceleration from slowing sum summed ordered small few }

pub starts_evenly-requires : goal.starts_evenly-requires
starts_evenly-requires g c =
    may_begin (g.P.Profile.value c.args.gradient.now) c.args.deceleration c.slowing-slowing.result c.args.sum.now c.args.least c.piece_before-here.result.from
    c.requires.summed c.slowing-slowing.ensures.small c.piece_before-here.ensures.within c.piece_before-here.ensures.before c.requires.near

pub returns-clause-stretch : goal.returns-clause-stretch
returns-clause-stretch g c =
    let gradient = g.P.Profile.value c.args.gradient.now in
    let here = c.piece_before-here in
    let initial = c.starts_evenly in
    let slows = c.slowing-slowing.ensures in
    let even : IsEven gradient c.args.deceleration c.slowing-slowing.result initial.result.from c.args.sum.now.from = λ place a b.
    ap (slowing_on c.args.deceleration) (here.ensures.value place (omega (arith, ints, initial.ensures.from, a)) b) ∙ sym slows.value in
    let before : initial.result.from <ℤ c.args.sum.now.from = omega (arith, ints, here.ensures.before, initial.ensures.from) in
    record {
      earlier = c.requires.summed;
      even = even;
      before = before;
      may_begin = may_begin gradient c.args.deceleration c.slowing-slowing.result c.args.sum.now c.args.least initial.result.from c.requires.summed slows.small
          (omega (arith, ints, here.ensures.within, initial.ensures.from)) before c.requires.near;
      initial = initial.ensures.initial;
      summed = initial_summed gradient c.args.deceleration initial.result.from c.slowing-slowing.result c.args.sum.now initial.result c.requires.summed even
          slows.small (omega (arith, ints)) initial.ensures.initial;
    }
