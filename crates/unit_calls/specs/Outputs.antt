-- Outputs, as C gets them (this project's profile). Limits are in metres per hour.
use Rattle.std.specs.Prelude.{◌≡◌, ◌-◌, List, ◌++◌, length, drop, map, slice_get, unwrap_or}
use Rattle.blocks.specs.Codes.{output_level_number, brake_number}
use Rattle.events.specs.Indications.{number_of as indications_number}
use Rattle.mode_table.specs.Modes.{number_of as mode_number}
use Rattle.unit_start.specs.Releases.{Release}
use Rattle.unit_calls.specs.declared.outputs.EtcsOutput.{EtcsOutput}

-- as C sees it
abbrev pub description_of : Release → EtcsOutput
description_of released = record {
  event = released.number;
  limit = released.output.limit;
  mode = mode_number released.output.mode;
  level = output_level_number released.output.level;
  brake = brake_number released.output.brake;
  indications = indications_number released.output.indications;
}

-- what was released is in the first of the caller's places, in its order, and the places after it stay as they were
abbrev pub AreHanded : List Release → List EtcsOutput → List EtcsOutput → Type 0
AreHanded released places handed = handed ≡ map description_of released ++ drop (length released) places

-- the last of these outputs, or the one before them where there is none
abbrev pub last_of : List Release → Release → Release
last_of released before = unwrap_or (slice_get released (length released - 1)) before
