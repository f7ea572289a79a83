use Rattle.safety_laws.proofs.Releasing.{speed_by_speed, case_by_case}
use Rattle.safety_laws.proofs.approaching.release_rule.Goals as goal

pub returns-clause-speeds : goal.returns-clause-speeds
returns-clause-speeds c life train end speed supervised = speed_by_speed life train end supervised speed

pub returns-clause-cases : goal.returns-clause-cases
returns-clause-cases c life train end supervised = case_by_case life train end supervised
