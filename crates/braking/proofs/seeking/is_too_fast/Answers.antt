use Rattle.std.proofs.Common.{◌≡◌, ℕ, ◌+◌, ◌*◌, ◌<◌, ap, ◌∙◌, arith}
use Rattle.std.proofs.lemmas.Bool.Decides.{nat_tests}
use Rattle.std.proofs.lemmas.Int.{ints}
use Rattle.braking.proofs.Roots.{root_less}
use Rattle.braking.proofs.Slower.{way_less}
use Rattle.braking.proofs.seeking.is_too_fast.Goals as goal

pub returns-in-Some-clause-sooner : goal.returns-in-Some-clause-sooner
returns-in-Some-clause-sooner c = λ fast v within enough.
    let fastest : ℕ = c.in-Some.fastest in
    let less : c.from-to.result * c.from-to.result + c.args.sum.now.taken_off < c.from-from.result * c.from-from.result =
    grind (arith, nat_tests, fast) in
    let to : c.from-to.result ≡ c.args.target.now.speed = c.from-to.ensures ∙ c.get-in-Some.ensures.value in
    let slower : v < c.from-from.result = root_less c.from-from.result v (omega (arith, less, enough, ap (λ (n : ℕ). n * n) to)) in
    let same : v < fastest = omega (arith, slower, c.from-from.ensures, c.get.ensures.value) in
    omega (arith, ints, c.in-Some.ensures.acts, way_less c.args.brakes.now.reaction fastest v (omega (arith, same)))
