use Rattle.std.proofs.Common.{sym, subst, ap, ◌∙◌}
use Rattle.events.specs.declared.input.Event.{Event}
use Rattle.kernel.specs.Lives.{past_at}
use Rattle.kernel.specs.Trips.{later_trip}
use Rattle.reasons.specs.Reported.{Reasoned, Reasons}
use Rattle.reasons.proofs.reasoning.Reasoning.trip_by.Goals as goal

pub returns-in_ok-trip_by-in-Input : goal.returns-in_ok-trip_by-in-Input
returns-in_ok-trip_by-in-Input c = λ story stands.
    let at = subst (λ (r : Reasoned). Reasons story r) (sym c.self.view_is) stands in
    c.in_ok-trip_by-in-Input.ensures.cause (past_at story).life at.knows.life_is
    ∙ ap (λ (e : Event). later_trip (past_at story) e) (sym c.in-Input.is)
