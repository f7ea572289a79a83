use Rattle.std.proofs.Common.{arith}
use Rattle.std.proofs.lemmas.Int.{ints}
use Rattle.braking.proofs.speeds.fastest_before.Goals as goal

pub returns-then-le-clause-late : goal.returns-then-le-clause-late
returns-then-le-clause-late c = λ _ v. grind (arith, ints)

pub returns-clause-greatest : goal.returns-clause-greatest
returns-clause-greatest c = λ v within before.
    c.fastest_within.ensures.greatest v within (omega (arith, ints, before, c.get.ensures.value, c.get-2.ensures.value))
