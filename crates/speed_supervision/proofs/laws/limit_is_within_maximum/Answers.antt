use Rattle.mode_control.specs.History.{mode_of}
use Rattle.speed_supervision.proofs.Within.{in_mode}
use Rattle.speed_supervision.proofs.laws.limit_is_within_maximum.Goals as goal

pub returns : goal.returns
returns c life train valid runs = in_mode life train valid (mode_of life.entries) runs
