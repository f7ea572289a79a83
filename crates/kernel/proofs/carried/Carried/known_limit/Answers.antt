use Rattle.std.proofs.Common.{◌≡◌, sym, subst, arith}
use Rattle.std.specs.Prelude.{Option, IfSome}
use Rattle.std.proofs.lemmas.Int.{ints}
use Rattle.speed_supervision.specs.declared.steady.SteadyLimit.{SteadyLimit}
use Rattle.speed_supervision.specs.Limit.{limit}
use Rattle.speed_supervision.specs.Steady.{IsSteady}
use Rattle.kernel.specs.Carrying.{IsSteadyAhead}
use Rattle.kernel.proofs.Steady.{still_given}
use Rattle.kernel.proofs.carried.Carried.known_limit.Goals as goal

pub returns-in-Some : goal.returns-in-Some
returns-in-Some g c life s ahead =
    let found = c.limit_of.result in
    let given = λ (now : IsSteadyAhead c.in-Some.steady life).
    still_given (limit life) c.in-Some.steady life found (omega (arith, ints, c.rear-rear.ensures.ordered)) now
    (c.limit_of.ensures.limit life s) (c.limit_of.ensures.near life s) in
    subst (λ (o : Option SteadyLimit). IfSome o (λ steady. IsSteadyAhead steady life)
    → IfSome found (λ speed. (speed ≡ limit life) × IfSome o (λ steady. IsSteady steady life))) (sym c.in-Some.is) given ahead
