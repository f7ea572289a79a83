use Rattle.std.proofs.Common.{rules, ◌≡◌, Some, refl}
use Rattle.unit_calls.proofs.Explaining.{explained}
use Rattle.unit_calls.proofs.asking.explain.Goals as goal

pub returns-in-Some : goal.returns-in-Some
returns-in-Some c =
    let state = c.in-Some.state in
    let some : c.released_state.result ≡ Some state = search rules in
    explained (λ s. s.now) _ c.args.opened.now c.released_state.result state c.events.result c.saturating_sub-event.result _ _ _ some c.released_state.ensures.exact
    c.saturating_sub-event.ensures refl c.events.ensures c.released_state.ensures.released c.why_reported.ensures
