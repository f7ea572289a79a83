use Rattle.speed_supervision.specs.Limit.{limit}
use Rattle.safety_laws.specs.Stopping.{front_of, gradient_along}
use Rattle.safety_laws.proofs.Meeting.{stops}
use Rattle.safety_laws.proofs.Passing.{passes_by}
use Rattle.safety_laws.proofs.stopping.passes_by_at_most.Goals as goal

pub returns : goal.returns
returns c life train end margin speed least most beyond square supervised none within run between enough =
    passes_by (front_of life) (gradient_along life) train.brakes end.location (limit life) margin speed least most beyond square (stops life train end supervised none) within run between enough
