-- The balise groups that the last event of a story closed, and the mode in which they were judged, which is that before
-- the event (SUBSET-026, 3.4.4, 3.16.2 and 4.8). Groups stand in the order in which they closed; lists of events have
-- the newest first.
use Rattle.std.specs.Prelude.{◌≡◌, List, [], ◌∷◌}
use Rattle.events.specs.declared.input.Event.{Event}
use Rattle.events.specs.declared.input.Event.TheVariants.{PowerUp, Input}
use Rattle.events.specs.declared.kept.Kept.{Kept}
use Rattle.kernel.specs.Closings.{closings_after}
use Rattle.kernel.specs.Lives.{Past, Story, past_at}
use Rattle.mode_control.specs.History.{mode_of}
use Rattle.mode_table.specs.declared.mode.Mode.{Mode}
use Rattle.mode_table.specs.declared.mode.Mode.TheVariants.{StandBy}
use Rattle.track_picture.specs.declared.closings.Closing.{Closing}
use Rattle.track_picture.specs.Closings.{all_of}
use Rattle.reasons.specs.declared.closings.GroupsReport.{GroupsReport}

-- the mode before an event of a life; a power-up closes no group, and its life begins in Stand By
abbrev pub mode_before : Past → Event → Mode
mode_before past (PowerUp cold) = StandBy
mode_before past (Input input) = mode_of past.life.entries

abbrev pub mode_from : Kept → List Event → Mode
mode_from kept [] = StandBy
mode_from kept (event ∷ events) = mode_before (past_at (record { kept = kept; events = events })) event

abbrev pub closings_from : Kept → List Event → List Closing
closings_from kept [] = []
closings_from kept (event ∷ events) = closings_after (past_at (record { kept = kept; events = events })) event

-- of the last event of a story
abbrev pub judged_in : Story → Mode
judged_in story = mode_from story.kept story.events

abbrev pub closings_of : Story → List Closing
closings_of story = closings_from story.kept story.events

-- what is reported of groups
pub record AreReported (mode : Mode) (closings : List Closing) (reported : GroupsReport) : Type 0 where
  pub mode_is : reported.mode ≡ mode
  pub closings_are : all_of reported.closings ≡ closings

abbrev pub AreGroups : Story → GroupsReport → Type 0
AreGroups story reported = AreReported (judged_in story) (closings_of story) reported
