use Rattle.std.proofs.Common.{sym, ◌∙◌}
use Rattle.kernel.specs.Brake.{causes_of}
use Rattle.kernel.specs.Lives.{life_of}
use Rattle.kernel.proofs.Commands.{for_emergency, for_service, commands, emergency_so, service_so, none_commanded}
use Rattle.kernel.proofs.laws.causes_command.Goals as goal

pub returns-clause-emergency : goal.returns-clause-emergency
returns-clause-emergency c events =
    let life = life_of events in
    let so = emergency_so (for_emergency (causes_of life)) (for_service (causes_of life)) in
    ((λ h. so.0 (sym (commands life) ∙ h)), (λ h. commands life ∙ so.1 h))

pub returns-clause-service : goal.returns-clause-service
returns-clause-service c events =
    let life = life_of events in
    let so = service_so (for_emergency (causes_of life)) (for_service (causes_of life)) in
    ((λ h. so.0 (sym (commands life) ∙ h)), (λ h. commands life ∙ so.1 h))

pub returns-clause-none : goal.returns-clause-none
returns-clause-none c events =
    let life = life_of events in
    let so = none_commanded (causes_of life) in
    ((λ h. so.0 (sym (commands life) ∙ h)), (λ h. commands life ∙ so.1 h))
