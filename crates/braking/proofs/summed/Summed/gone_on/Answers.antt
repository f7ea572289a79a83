use Rattle.std.proofs.Common.{◌≡◌, ◌≤◌, ◌<◌, ◌*◌, ◌+◌, ◌^◌, ◌-ℤ◌, ◌<ℤ◌, ◌≤ℤ◌, ℕ, ℤ, ap, ◌∙◌, arith, rules}
use Rattle.std.specs.Prelude.{Option, Some}
use Rattle.std.proofs.lemmas.Int.{ints, by_lt_z}
use Rattle.std.proofs.Math.Nat.{mul-le-mul_right}
use Rattle.units.specs.Stretches.{natural}
use Rattle.track_store.specs.Profiles.{Lasts}
use Rattle.brakes.specs.Brakes.{slowing_on}
use Rattle.braking.proofs.Naturals.{parts}
use Rattle.braking.proofs.Braked.{braked_over, braked_even, braked_little}
use Rattle.braking.proofs.summed.Summed.gone_on.Goals as goal

-- no centimetre takes off more than 2592 * 549
stretch_small : (slowing n part : ℕ) → slowing ≤ 549 → part ≡ 2592 * slowing * n → part ≤ 1_423_008 * n
stretch_small slowing n part a b =
    let factor : 2592 * slowing ≤ 1_423_008 = omega arith in
    let product : 2592 * slowing * n ≤ 1_423_008 * n = mul-le-mul_right n factor in
    omega (arith, product)

same_slowing : (part slowing other n : ℕ) → part ≡ 2592 * slowing * n → slowing ≡ other → part ≡ 2592 * other * n
same_slowing part slowing other n is same = rw (← same) is

pub taken_off_evenly-taken_off-requires-clause-ordered : goal.taken_off_evenly-taken_off-requires-clause-ordered
taken_off_evenly-taken_off-requires-clause-ordered g c =
    let place : ℤ = c.loop-deceleration.place in
    let here : place <ℤ c.args.to = grind (arith, ints) in
    let lasts : Lasts (g.P.Profile.value c.args.gradient.now) place (Some c.end_of_stretch-end.result) =
    c.end_of_stretch-end.ensures.lasts (g.P.Profile.value c.args.gradient.now) place here c.piece-here.ensures.next in
    omega (arith, ints, lasts.0)

pub loop-deceleration-smaller : goal.loop-deceleration-smaller
loop-deceleration-smaller g c =
    let place : ℤ = c.loop-deceleration.place in
    let here : place <ℤ c.args.to = grind (arith, ints) in
    let lasts : Lasts (g.P.Profile.value c.args.gradient.now) place (Some c.end_of_stretch-end.result) =
    c.end_of_stretch-end.ensures.lasts (g.P.Profile.value c.args.gradient.now) place here c.piece-here.ensures.next in
    let ahead : place <ℤ c.end_of_stretch-end.result = lasts.0 in
    search (rules, ahead)

pub overflow_add-taken_off : goal.overflow_add-taken_off
overflow_add-taken_off g c =
    let place : ℤ = c.loop-deceleration.place in
    let end : ℤ = c.end_of_stretch-end.result in
    let from : ℤ = c.args.self.from in
    let here : place <ℤ c.args.to = grind (arith, ints) in
    let lasts : Lasts (g.P.Profile.value c.args.gradient.now) place (Some end) =
    c.end_of_stretch-end.ensures.lasts (g.P.Profile.value c.args.gradient.now) place here c.piece-here.ensures.next in
    let kept = c.loop-deceleration.invariant in
    let part = stretch_small c.slowing.result (natural (end -ℤ place)) c.taken_off_evenly-taken_off.result c.slowing.ensures.small c.taken_off_evenly-taken_off.ensures in
    let on = parts from place end kept.ordered (omega (arith, ints, lasts.0)) in
    let whole = parts from end c.args.to (omega (arith, ints, lasts.0, kept.ordered)) c.end_of_stretch-end.ensures.within in
    let little = braked_little (g.P.Profile.value c.args.gradient.now) c.args.deceleration from place kept.ordered kept.small in
    let fits : c.loop-deceleration.taken_off + c.taken_off_evenly-taken_off.result < 2 ^ 64 =
    omega (arith, part, on, whole, kept.sum, little, c.requires.near) in
    search (rules, fits)

pub loop-deceleration-preserved : goal.loop-deceleration-preserved
loop-deceleration-preserved g c =
    let gradient : ℤ → Option ℤ = g.P.Profile.value c.args.gradient.now in
    let place : ℤ = c.loop-deceleration.place in
    let end : ℤ = c.end_of_stretch-end.result in
    let from : ℤ = c.args.self.from in
    let here : place <ℤ c.args.to = grind (arith, ints) in
    let lasts : Lasts (g.P.Profile.value c.args.gradient.now) place (Some end) =
    c.end_of_stretch-end.ensures.lasts (g.P.Profile.value c.args.gradient.now) place here c.piece-here.ensures.next in
    let kept = c.loop-deceleration.invariant in
    let n : ℕ = natural (end -ℤ place) in
    let part : c.taken_off_evenly-taken_off.result ≡ 2592 * slowing_on c.args.deceleration (gradient place) * n =
    same_slowing c.taken_off_evenly-taken_off.result c.slowing.result (slowing_on c.args.deceleration (gradient place)) n c.taken_off_evenly-taken_off.ensures
    (c.slowing.ensures.value ∙ ap (slowing_on c.args.deceleration) c.piece-here.ensures.value) in
    let slow : slowing_on c.args.deceleration (gradient place) ≤ 549 =
    rw (← (c.slowing.ensures.value ∙ ap (slowing_on c.args.deceleration) c.piece-here.ensures.value)) c.slowing.ensures.small in
    let ahead : place ≤ℤ end = omega (arith, ints, lasts.0) in
    let over = braked_over gradient c.args.deceleration from place end kept.ordered ahead in
    let even = braked_even gradient c.args.deceleration place end ahead lasts.1 in
    record {
      ordered = omega (arith, ints, ahead, kept.ordered);
      within = c.end_of_stretch-end.ensures.within;
      sum = omega (arith, part, over, even, kept.sum);
      small = λ (there : ℤ) a b. by_lt_z there place
          (λ (sooner : there <ℤ place). kept.small there a sooner)
          (λ (later : place ≤ℤ there). rw (lasts.1 there later b) slow);
    }
