use Rattle.std.proofs.Common.{◌≡◌, ◌∙◌, sym, inr, true, refl, arith}
use Rattle.std.specs.Prelude.{nat_le}
use Rattle.std.proofs.lemmas.Bool.Decides.{nat_tests}
use Rattle.braking.specs.Braking.{fits}
use Rattle.braking.proofs.Slower.{summed_fits}
use Rattle.braking.proofs.Greatest.{greatest_is}
use Rattle.braking.proofs.seeking.permitted_before.Goals as goal

pub returns-then-lacking-sum-clause-speed : goal.returns-then-lacking-sum-clause-speed
returns-then-lacking-sum-clause-speed g c =
    let test = fits c.args.front (g.P.Profile.value c.args.gradient.now) c.args.brakes.now c.args.target.now in
    let known = c.in-Some.ensures.sum in
    let is = summed_fits c.args.front (g.P.Profile.value c.args.gradient.now) c.args.brakes.now c.args.target.now c.args.limit c.lacking.result c.in-Some.sum
    c.requires.faster (c.in-Some.ensures.late.0 refl) c.lacking.ensures known.summed known.from known.to known.reached in
    let much : nat_le c.lacking.result c.in-Some.sum.taken_off ≡ true = grind (arith, nat_tests, c.if-lacking-sum.true) in
    sym (greatest_is test c.args.limit c.args.limit (omega arith) (inr (sym is ∙ much)) (λ k above below. absurd (omega arith)))
