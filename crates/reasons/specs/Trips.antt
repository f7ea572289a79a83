-- The trip that is owed: by which event of this life it was entered, and why (this project's profile). Events are
-- numbered from 0, over all lives; lists of events have the newest first.
use Rattle.std.specs.Prelude.{ℕ, Bool, if◌then◌else◌, Option, Some, None, List, [], ◌∷◌}
use Rattle.events.specs.declared.input.Event.{Event}
use Rattle.events.specs.declared.kept.Kept.{Kept}
use Rattle.kernel.specs.declared.causes.BrakeCause.TheVariants as cause
use Rattle.kernel.specs.Causes.{is_among}
use Rattle.kernel.specs.Lives.{Story, onward, past_at}
use Rattle.kernel.specs.Trips.{later_trip}
use Rattle.mode_control.specs.declared.tripping.TripCause.{TripCause}
use Rattle.reasons.specs.declared.trips.TripReport.{TripReport}
use Rattle.reasons.specs.Runs.{number_after, later_causes, in_this_life}

-- after an event of this number that entered Trip for this cause, or didn't
abbrev pub trip_held : Bool → Option TripCause → Option TripReport → ℕ → Option TripReport
trip_held owes (Some cause) before number = Some (record { event = number; cause = cause })
trip_held owes None before number = if owes then before else None

-- none where no trip is owed, or it was entered in a life before
abbrev pub trip_from : Kept → List Event → Option TripReport
trip_from kept [] = None
trip_from kept (event ∷ events) =
    let before : Story = record { kept = kept; events = events } in
    trip_held (is_among cause.OwesTrip (later_causes (onward before event))) (later_trip (past_at before) event)
    (in_this_life event (trip_from kept events)) (number_after before)

abbrev pub trip_of : Story → Option TripReport
trip_of story = trip_from story.kept story.events
