-- A scaffold for proofs alone: no public clause reaches it (`tools/dev/definitions --check`). An event that leaves all as it
-- is: the mode stays, and nothing is called for, owed or left (this project's profile).
use Rattle.std.specs.Prelude.{◌≡◌, Option, None, []}
use Rattle.areas.specs.declared.acknowledgement.Acknowledgement.TheVariants.{Nothing}
use Rattle.mode_table.specs.declared.level.TrainLevel.{TrainLevel}
use Rattle.units.specs.Stretches.{Span}
use Rattle.track_picture.specs.History.{areas_of, announced_level}
use Rattle.mode_table.specs.Rows.{next_mode}
use Rattle.mode_control.specs.Conditions.{conditions}
use Rattle.mode_control.specs.History.{tracks, mode_of, on_sight_of, shunting_of, level_0_of}
use Rattle.mode_control.specs.Life.{Life}

pub record Rests (life : Life) (train : Span) (level : Option TrainLevel) : Type 0 where
  pub stays : next_mode (mode_of life.entries) (conditions life train) ≡ mode_of life.entries
  pub areas : areas_of (tracks life.entries) ≡ []
  pub announced : announced_level (tracks life.entries) ≡ None
  pub coming : level ≡ None
  pub on_sight : on_sight_of life.entries ≡ Nothing
  pub shunting : shunting_of life.entries ≡ Nothing
  pub level_0 : level_0_of life.entries ≡ Nothing
