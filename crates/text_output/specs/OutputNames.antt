-- The names of what the kernel answers (this project's profile; the letters of the modes: SUBSET-026, 4.4).
use Rattle.std.specs.Prelude.{ℕ, List, Option, Some, None, codes}
use Rattle.events.specs.declared.output.Brake.{Brake}
use Rattle.events.specs.declared.output.Brake.TheVariants as a_brake
use Rattle.mode_table.specs.declared.level.TrainLevel.{TrainLevel}
use Rattle.mode_table.specs.declared.level.TrainLevel.TheVariants.{Level0, Level1}
use Rattle.mode_table.specs.declared.mode.Mode.{Mode}
use Rattle.mode_table.specs.declared.mode.Mode.TheVariants.{FullSupervision, OnSight, StaffResponsible, Shunting, Unfitted, StandBy, Trip, PostTrip, SystemFailure}

abbrev pub mode_text : Mode → List ℕ
mode_text FullSupervision = codes "FS"
mode_text OnSight = codes "OS"
mode_text StaffResponsible = codes "SR"
mode_text Shunting = codes "SH"
mode_text Unfitted = codes "UN"
mode_text StandBy = codes "SB"
mode_text Trip = codes "TR"
mode_text PostTrip = codes "PT"
mode_text SystemFailure = codes "SF"

abbrev pub level_text : Option TrainLevel → List ℕ
level_text None = codes "-"
level_text (Some Level0) = codes "0"
level_text (Some Level1) = codes "1"

abbrev pub brake_text : Brake → List ℕ
brake_text a_brake.None = codes "none"
brake_text a_brake.Service = codes "service"
brake_text a_brake.Emergency = codes "emergency"
