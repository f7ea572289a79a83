-- What became of each balise group that an input closes: they are judged, and their packets used, in the mode before
-- the event (SUBSET-026, 3.4.4, 3.16.2 and 4.8). Groups stand in the order in which they closed.
use Rattle.std.specs.Prelude.{List}
use Rattle.events.specs.declared.input.Input.{Input}
use Rattle.track_picture.specs.declared.closings.Closing.{Closing}
use Rattle.track_picture.specs.Closings as track
use Rattle.mode_control.specs.History.{tracks, mode_of}
use Rattle.mode_control.specs.Life.{Life}

-- those that an input closes, as the next event
abbrev pub closings_by : Life → Input → List Closing
closings_by life input = track.closings_by (mode_of life.entries) (tracks life.entries) input
