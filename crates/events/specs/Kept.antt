-- What is kept over a loss of power (this project's profile). Distances are centimetres.
use Rattle.std.specs.Prelude.{ℤ}
use Rattle.vars.specs.declared.group.GroupIdentity.{GroupIdentity}

-- where the train is, by a balise group: how far beyond it the estimated front lies, in centimetres
pub record PositionFrom : Type 0 where
  pub group : GroupIdentity
  pub distance : ℤ
