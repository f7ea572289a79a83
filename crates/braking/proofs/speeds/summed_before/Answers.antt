use Rattle.std.proofs.Common.{◌≡◌, ◌<◌, ◌≤◌, ◌-◌, ◌^◌, ℕ, ℤ, ◌-ℤ◌, ◌≤ℤ◌, inl, inr, ap, arith}
use Rattle.std.specs.Prelude.{Option}
use Rattle.std.proofs.lemmas.Int.{ints}
use Rattle.units.specs.Stretches.{natural}
use Rattle.braking.specs.declared.summed.Summed.{Summed}
use Rattle.braking.specs.Braking.{IsSummed}
use Rattle.braking.proofs.Naturals.{parts}
use Rattle.braking.proofs.Braked.{summed_little}
use Rattle.braking.proofs.speeds.summed_before.Goals.{then-le+then-le-2, else-le}
use Rattle.braking.proofs.speeds.summed_before.Goals as goal

-- a stretch within one that is short enough takes off little enough
little : (gradient : ℤ → Option ℤ) (deceleration : ℕ) (sum : Summed) (start place : ℤ) → sum.from ≡ start → sum.to ≤ℤ place →
    natural (place -ℤ start) ≤ 2 ^ 43 → IsSummed gradient deceleration sum → sum.taken_off < 2 ^ 64 - 2 ^ 62
little gradient deceleration sum start place begins within near summed =
    let whole = parts sum.from sum.to place summed.0 within in
    let all : natural (place -ℤ sum.from) ≡ natural (place -ℤ start) = ap (λ (z : ℤ). natural (place -ℤ z)) begins in
    omega (arith, summed_little gradient deceleration sum summed, whole, all, near)

pub returns-clause-sum : goal.returns-clause-sum
returns-clause-sum g c =
    let gradient = g.P.Profile.value c.args.gradient.now in
    let sum = c.gone_on.result in
    let begins : sum.from ≡ c.in_ok-start.start = elim c.if-le.branch [
      | then-le+then-le-2 w ↦ omega (arith, ints, c.gone_on.ensures.from, ap (λ (s : Summed). s.from) w.from_start-is, w.initial-from_start.ensures.from)
      | else-le w ↦ omega (arith, ints, c.gone_on.ensures.from, ap (λ (s : Summed). s.from) w.from_start-is, w.none-from_start.ensures.from)
    ] in
    record {
      summed = c.gone_on.ensures.summed;
      from = omega (arith, ints, begins, c.in_ok-start.ensures.value, c.reaction_way.ensures.value);
      to = c.gone_on.ensures.within;
      reached = elim c.gone_on.ensures.reached [ inl there ↦ inl there | inr enough ↦ inr (omega (arith, enough, c.lacking-enough.ensures)) ];
      small = little gradient c.args.brakes.now.deceleration sum c.in_ok-start.start c.args.target.now.place begins c.gone_on.ensures.within
          c.in_ok-start.ensures.near c.gone_on.ensures.summed;
    }
