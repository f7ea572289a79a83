use Rattle.std.proofs.Common.{◌≡◌, ◌≤◌, ◌^◌, ℤ, pos, ◌+ℤ◌, ◌-ℤ◌, ◌∙◌, arith}
use Rattle.std.specs.Prelude.{Option, None, Some, IfSome}
use Rattle.std.proofs.lemmas.Int.{ints, to_z-of_z}
use Rattle.units.specs.Stretches.{natural}
use Rattle.braking.proofs.Naturals.{apart_at_most}
use Rattle.braking.proofs.speeds.brakes_act.Goals as goal

value_some : (found : Option ℤ) (start other : ℤ) → IfSome found (λ z. z ≡ start) → start ≡ other → IfSome found (λ z. z ≡ other)
value_some None start other is same = tt
value_some (Some z) start other is same = is ∙ same

near_some : (found : Option ℤ) (place start : ℤ) → IfSome found (λ z. z ≡ start) → natural (place -ℤ start) ≤ 2 ^ 43 →
    IfSome found (λ z. natural (place -ℤ z) ≤ 2 ^ 43)
near_some None place start is near = tt
near_some (Some z) place start is near = rw is near

pub returns-then-start-get-clause-value : goal.returns-then-start-get-clause-value
returns-then-start-get-clause-value c = value_some c.new.result _ (c.args.front +ℤ pos c.args.way) c.new.ensures.value (grind (arith, ints, to_z-of_z))

pub returns-then-start-get-clause-near : goal.returns-then-start-get-clause-near
returns-then-start-get-clause-near c =
    near_some c.new.result c.args.place (c.args.front +ℤ pos c.args.way) (returns-then-start-get-clause-value c)
    (apart_at_most (c.args.front +ℤ pos c.args.way) c.args.place (omega (arith, ints, c.get.ensures.value, c.get.ensures.limits))
    (omega (arith, ints, c.get-2.ensures.value, c.get-2.ensures.limits)))

pub returns-then-start-get-clause-reach : goal.returns-then-start-get-clause-reach
returns-then-start-get-clause-reach c =
    apart_at_most c.args.front c.args.place (omega (arith, ints, c.get.ensures.value, c.get.ensures.limits))
    (omega (arith, ints, c.get-2.ensures.value, c.get-2.ensures.limits))

pub returns-else-start-get-clause-reach : goal.returns-else-start-get-clause-reach
returns-else-start-get-clause-reach c =
    apart_at_most c.args.front c.args.place (omega (arith, ints, c.get.ensures.value, c.get.ensures.limits))
    (omega (arith, ints, c.get-2.ensures.value, c.get-2.ensures.limits))
