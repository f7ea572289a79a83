use Rattle.safety_laws.proofs.LowerStarts.{together, kind_by_kind}
use Rattle.safety_laws.proofs.Releasing.{by_starts}
use Rattle.safety_laws.proofs.approaching.starts_decide.Goals as goal

pub returns-clause-together : goal.returns-clause-together
returns-clause-together c front bound last bounds track gradient brakes = together front bounds track bound last gradient brakes

pub returns-clause-by_kind : goal.returns-clause-by_kind
returns-clause-by_kind c front bound last bounds track gradient brakes = kind_by_kind front bounds track bound last gradient brakes

pub returns-clause-limit : goal.returns-clause-limit
returns-clause-limit c life train end supervised = by_starts life train end supervised
