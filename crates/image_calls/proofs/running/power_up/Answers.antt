use Rattle.std.proofs.Common.{Some, sym, subst}
use Rattle.events.specs.declared.input.Event.{Event}
use Rattle.image_calls.specs.Lived.{powered_up, Stands}
use Rattle.image_calls.proofs.running.power_up.Goals as goal

pub returns-in-PowerUp : goal.returns-in-PowerUp
returns-in-PowerUp c = λ at stands. subst (λ (e : Event). Stands (powered_up e c.args.kept.now at) (Some c.begin-life.result.0)) (sym c.in-PowerUp.is)
    c.begin-life.ensures.stands
