-- The record of one event of a life, its power-up included: what the track sent, what the driver did, which level came
-- into force, which mode was entered, and what became of the acknowledgements (this project's profile). Its fields are
-- the columns that the sentences of an event write, in their order. Moments are milliseconds.
use Rattle.std.specs.Prelude.{true, false, Option, None}
use Rattle.mode_table.specs.declared.level.TrainLevel.{TrainLevel}
use Rattle.track_picture.specs.Entry as track
use Rattle.mode_control.specs.declared.calls.Call.{Call}
use Rattle.mode_control.specs.declared.calls.Calls.{Calls}
use Rattle.mode_control.specs.declared.calls.Left.{Left}
use Rattle.mode_control.specs.declared.deed.Deed.{Deed}

pub record SupervisionEntry : Type 0 where
  pub track : track.TrackEntry  -- what the track announced, and which mode was entered
  pub deed : Option Deed
  pub level : Option TrainLevel  -- the announced level that came into force
  pub calls : Calls  -- what it calls for from the driver
  pub left : Left  -- of which kinds an area or an announcement is left at its end

-- nothing is called for, and nothing is settled yet
abbrev pub no_call : Call
no_call = record { turned = None; asks = false }

abbrev pub no_calls : Calls
no_calls = record { on_sight = no_call; shunting = no_call; level_0 = no_call }

abbrev pub all_left : Left
all_left = record { on_sight = true; shunting = true; level_0 = true }

-- an event as it begins: its other columns aren't written yet
abbrev pub initial : track.TrackEntry → Option Deed → SupervisionEntry
initial track deed = record { track = track; deed = deed; level = None; calls = no_calls; left = all_left }
