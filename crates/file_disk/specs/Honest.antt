-- An honest file in memory (this project's profile of tests). Offsets are bytes.
use Rattle.std.specs.Prelude.{◌-◌, true, false, [], List, length, Option, Some, None, slice_get}
use Rattle.file_disk.specs.Files.{FileMoment, FileState}
use Rattle.file_disk.specs.declared.moment.Moment.{Moment}
use Rattle.file_disk.specs.declared.honest.HonestFile.{HonestFile}
use Rattle.file_disk.specs.Moments.{moment_of}

-- a moment, an empty file where there is none
abbrev pub seen : Option Moment → FileMoment
seen None = record { bytes = []; is_open = λ _. false }
seen (Some m) = moment_of m

-- what contracts see of a file that has been so from moment to moment, the last of which is now
abbrev pub state_of : List Moment → FileState
state_of ms = record { honest = true; clock = length ms - 1; at = λ k. seen (slice_get ms k) }

-- what contracts see of it
abbrev pub honest_state : HonestFile → FileState
honest_state f = state_of f.moments.items
