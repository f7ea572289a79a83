use Rattle.std.proofs.Common.{rules, ◌≡◌, Some, refl}
use Rattle.unit_calls.specs.Drivers.{DescribesDriver}
use Rattle.unit_calls.proofs.Explaining.{asked}
use Rattle.unit_calls.proofs.asking.describe.Goals as goal

pub returns-in-Some : goal.returns-in-Some
returns-in-Some c =
    let state = c.in-Some.state in
    let some : c.released_state.result ≡ Some state = search rules in
    asked (λ s. s.now) _ DescribesDriver c.args.opened.now c.released_state.result state _ _ _ some c.released_state.ensures.exact refl c.released_state.ensures.released
    (λ durable accepted ahead knows. c.driver_reported.ensures accepted knows)
