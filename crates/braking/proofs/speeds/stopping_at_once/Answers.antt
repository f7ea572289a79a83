use Rattle.std.proofs.Common.{ap, sym, ◌∙◌, arith}
use Rattle.std.proofs.lemmas.Int.{ints}
use Rattle.brakes.specs.Brakes.{slowing_on}
use Rattle.braking.proofs.Braked.{IsEven, initial_summed}
use Rattle.braking.proofs.speeds.stopping_at_once.Goals as goal

pub returns : goal.returns
returns g c =
    let gradient = g.P.Profile.value c.args.gradient.now in
    let deceleration = c.args.brakes.now.deceleration in
    let slows = c.slowing-slowing.ensures in
    let start = c.in_ok-start.start in
    let lasts = c.in_ok-stop.ensures.lasts gradient c.piece-here.ensures.next in
    let even : IsEven gradient deceleration c.slowing-slowing.result start c.none.result.from = λ place a b.
    ap (slowing_on deceleration) (lasts.1 place a (omega (arith, ints, b, c.none.ensures.from)) ∙ sym c.piece-here.ensures.value) ∙ sym slows.value in
    initial_summed gradient deceleration start c.slowing-slowing.result c.none.result c.starts_evenly.result
    (c.none.ensures.summed gradient deceleration) even slows.small (omega (arith, ints, c.starts_evenly.ensures.from)) c.starts_evenly.ensures.initial
