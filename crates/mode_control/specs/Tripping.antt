-- Why Trip is entered: which row of the mode table leads there (SUBSET-026, 4.6; the rows and their conditions: this
-- project's profile). Rows 3, 4 and 5 lead to Trip from Full Supervision, On Sight and Staff Responsible, where the
-- train is to be tripped; row 6 from Staff Responsible, after row 5; row 9 from Unfitted; no other row does. A reader
-- may take for granted that Trip is entered where this is asked.
use Rattle.std.specs.Prelude.{Bool, ◌&&◌, if◌then◌else◌, Option, Some, None, [], ◌∷◌}
use Rattle.std.specs.List.{list_any}
use Rattle.units.specs.Stretches.{Span}
use Rattle.events.specs.declared.input.Input as inputs
use Rattle.mode_table.specs.declared.mode.Mode.{Mode}
use Rattle.mode_table.specs.declared.mode.Mode.TheVariants.{StaffResponsible, Unfitted, Trip}
use Rattle.mode_table.specs.Modes.{is_mode, is_one_of}
use Rattle.mode_table.specs.Rows.{rows}
use Rattle.track_picture.specs.History.{happened_of}
use Rattle.mode_control.specs.Conditions.{is_beyond_end, trips}
use Rattle.mode_control.specs.Entry.{SupervisionEntry, initial}
use Rattle.mode_control.specs.History.{tracks, mode_of}
use Rattle.mode_control.specs.Life.{Life, grown}
use Rattle.mode_control.specs.Sentences.{reported, deed_of, entered_in, train_in, the_train_is_seen, written}
use Rattle.mode_control.specs.declared.tripping.TripCause.{TripCause}
use Rattle.mode_control.specs.declared.tripping.TripCause.TheVariants.{EndPassed, Linking, Stop, StaffDistance, Level}

-- a row of the mode table leads from a mode to Trip
abbrev pub leads_to_trip : Mode → Bool
leads_to_trip mode = list_any (λ row. is_one_of row.sources mode && is_mode Trip row.target) rows

-- rows 3 to 5: the first of the conditions of a trip that holds (`trips`, in Conditions)
abbrev pub why_trips : Life → Span → TripCause
why_trips life train =
    if is_beyond_end life train then EndPassed
    else if (happened_of (tracks life.entries)).requested.trip then Linking
    else Stop

-- the row to Trip from a mode
abbrev pub row_from : Mode → Life → Span → TripCause
row_from Unfitted life train = Level
row_from StaffResponsible life train = if trips life train then why_trips life train else StaffDistance
row_from mode life train = why_trips life train

abbrev pub row_where : Option Mode → Life → Span → Option TripCause
row_where None life train = None
row_where (Some Trip) life train = Some (row_from (mode_of life.entries) life train)
row_where (Some mode) life train = None

-- where Trip is entered, by the life as the event leaves it before its change of mode
abbrev pub trip_in : Life → Span → Option TripCause
trip_in life train = row_where (entered_in life train) life train

-- .. by an input, as the next event
abbrev pub seen_by : Life → inputs.Input → SupervisionEntry
seen_by life input = written (the_train_is_seen ∷ []) life (initial (reported life input) (deed_of life input))

abbrev pub trip_by : Life → inputs.Input → Option TripCause
trip_by life input = let now = grown life (seen_by life input) in trip_in now (train_in now (seen_by life input))
