-- Why the last event of a list entered Trip (SUBSET-026, 4.6; the rows: this project's profile). Lists of events have the
-- newest first.
use Rattle.std.specs.Prelude.{◌≡◌, not, ◌&&◌, is_some, Option, None, List, [], ◌∷◌}
use Rattle.events.specs.declared.input.Event.{Event}
use Rattle.events.specs.declared.input.Event.TheVariants.{PowerUp, Input}
use Rattle.mode_table.specs.declared.mode.Mode.TheVariants.{Trip}
use Rattle.mode_table.specs.Modes.{is_mode}
use Rattle.mode_control.specs.Tripping.{trip_by}
use Rattle.mode_control.specs.declared.tripping.TripCause.{TripCause}
use Rattle.kernel.specs.Lives.{Past, life_of}
use Rattle.kernel.specs.Output.{output_after}

-- the row of the mode table that led to Trip; none where the event didn't enter it, as no power-up does
abbrev pub trip_at : List Event → Option TripCause
trip_at [] = None
trip_at (PowerUp cold ∷ events) = None
trip_at (Input input ∷ events) = trip_by (life_of events) input

-- the same of an event after a past
abbrev pub later_trip : Past → Event → Option TripCause
later_trip past (PowerUp cold) = None
later_trip past (Input input) = trip_by past.life input

-- an event has a cause exactly where the mode after it is Trip, and that before it wasn't
abbrev pub TripsHaveCauses : Type 0
TripsHaveCauses = (event : Event) (events : List Event) →
    is_some (trip_at (event ∷ events)) ≡ (is_mode Trip (output_after (event ∷ events)).mode && not (is_mode Trip (output_after events).mode))
