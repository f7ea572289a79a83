use Rattle.std.proofs.Common.{ap, arith}
use Rattle.std.proofs.lemmas.Int.{ints}
use Rattle.braking.specs.Braking.{braked}
use Rattle.braking.proofs.Naturals.{none_between}
use Rattle.braking.proofs.Braked.{braked_none}
use Rattle.braking.proofs.summed.Summed.none.Goals as goal

pub returns-clause-summed : goal.returns-clause-summed
returns-clause-summed c gradient deceleration =
    let none = none_between c.args.place c.args.place (omega (arith, ints)) in (
      omega (arith, ints),
      omega (arith, ap (braked gradient deceleration c.args.place) none, braked_none gradient deceleration c.args.place),
      λ place a b. absurd (omega (arith, ints, a, b)),
    )
