-- What an input does in a life, sentence by sentence in the order of one event (SUBSET-026, 4.6, 4.10, 5.7, 5.9 and
-- 5.10; the order: this project's profile). Places are centimetres, moments milliseconds, speeds metres per hour; lists
-- of entries have the newest first. An event is recorded column by column: each sentence sees the life with the event
-- as it is written so far, and writes columns of its own. A reader may take for granted that a column which isn't
-- written yet says nothing.
use Rattle.std.specs.Prelude.{ℕ, Bool, false, not, ◌&&◌, if◌then◌else◌, Option, Some, None, unwrap_or, List, [], ◌∷◌}
use Rattle.std.specs.Option.{option_map_or}
use Rattle.units.specs.Stretches.{Span}
use Rattle.areas.specs.Acknowledging.{waits}
use Rattle.areas.specs.Areas.{any_asks, any_remains}
use Rattle.areas.specs.Levels.{coming, any_asks_for, is_level_0, is_level_0_announced}
use Rattle.driver.specs.Accepting.{accepts}
use Rattle.driver.specs.declared.action.Action.{Action}
use Rattle.driver.specs.declared.occasion.Occasion.{Occasion}
use Rattle.driver.specs.declared.action_situation.ActionSituation.{ActionSituation}
use Rattle.events.specs.declared.input.Input as inputs
use Rattle.events.specs.declared.kept.Kept.{Kept}
use Rattle.events.specs.declared.input.Input.TheVariants.{Telegram, Odometer, Clock, Driver}
use Rattle.mode_table.specs.declared.level.TrainLevel.{TrainLevel}
use Rattle.mode_table.specs.declared.mode.Mode.{Mode}
use Rattle.mode_table.specs.declared.statuses.Cold.{Cold}
use Rattle.mode_table.specs.declared.mode.Mode.TheVariants.{OnSight, Shunting}
use Rattle.mode_table.specs.Modes.{is_mode}
use Rattle.mode_table.specs.Rows.{next_mode}
use Rattle.national.specs.declared.values.Values.{Values}
use Rattle.vars.specs.declared.level.AreaMode.{AreaMode}
use Rattle.vars.specs.declared.level.AreaMode.TheVariants as area
use Rattle.track_picture.specs.Entry as track
use Rattle.track_picture.specs.History.{place_of, speed_of, moment_of, areas_of, announced_level}
use Rattle.track_picture.specs.Sentences.{received, span_with, forgetting_mark, powered_up}
use Rattle.track_picture.specs.StandsFor.{national_of}
use Rattle.mode_control.specs.Conditions.{conditions, is_shunting_choice}
use Rattle.mode_control.specs.declared.deed.Deed.{Deed}
use Rattle.mode_control.specs.declared.calls.Call.{Call}
use Rattle.mode_control.specs.declared.calls.Calls.{Calls}
use Rattle.mode_control.specs.declared.calls.Left.{Left}
use Rattle.mode_control.specs.Entry.{SupervisionEntry, initial}
use Rattle.mode_control.specs.History.{tracks, mode_of, done_in, on_sight_of, shunting_of, level_0_of}
use Rattle.mode_control.specs.Life.{Life, track_of, driver_of, length_of, grown}

-- ---- before any sentence: what the input itself brings of the track, by the mode before the event; and an action of
-- the driver, where it is accepted in the situation before the event

abbrev pub values_of : Life → Values
values_of life = (national_of (track_of life)).in_force.values

abbrev pub situation : Life → ActionSituation
situation life = record {
  mode = mode_of life.entries;
  speed = speed_of (tracks life.entries);
  override_allowed = (values_of life).override_allowed;
  on_sight_waits = waits (on_sight_of life.entries);
  shunting_waits = waits (shunting_of life.entries);
  level_0_waits = waits (level_0_of life.entries);
}

abbrev pub occasion : Life → Occasion
occasion life = record {
  moment = moment_of (tracks life.entries);
  path = (place_of (tracks life.entries)).sums.path;
  override_time = (values_of life).override_time;
  override_distance = (values_of life).override_distance;
}

abbrev pub deed_by : Life → Action → Option Deed
deed_by life action =
    if accepts (driver_of life) (situation life) action then Some (record { action = action; occasion = occasion life }) else None

abbrev pub deed_of : Life → inputs.Input → Option Deed
deed_of life (Telegram bytes) = None
deed_of life (Odometer reading) = None
deed_of life (Clock moment) = None
deed_of life (Driver action) = deed_by life action

abbrev pub reported : Life → inputs.Input → track.TrackEntry
reported life input = received (mode_of life.entries) (tracks life.entries) input

-- ---- the train is seen: it is looked at where the groups that closed have put it, and the level comes into force that
-- is announced for a place which its maximum safe front has reached

abbrev pub span_of : Life → Span
span_of life = span_with (length_of life) (tracks life.entries)

abbrev pub level_in : Life → Option TrainLevel
level_in life = coming (span_of life).max_front (announced_level (tracks life.entries))

-- a sentence: by the life with the event as it is written so far, the event with further columns
abbrev pub Sentence : Type 0
Sentence = Life → SupervisionEntry → SupervisionEntry

-- the level is read by the announcement as it was, which the look then uses up
abbrev pub the_train_is_seen : Sentence
the_train_is_seen now event =
    record event { track = record event.track { train = Some (span_of now) }; level = level_in now }

-- where the train was seen in this event
abbrev pub train_in : Life → SupervisionEntry → Span
train_in now event = unwrap_or event.track.train (span_of now)

-- ---- the mode changes: one row of the mode table is taken (4.6)

abbrev pub changed : Mode → Mode → Option Mode
changed old new = if is_mode old new then None else Some new

abbrev pub entered_in : Life → Span → Option Mode
entered_in life train = changed (mode_of life.entries) (next_mode (mode_of life.entries) (conditions life train))

-- .. and the driver is called to acknowledge (5.7, 5.9, 5.10): the transition of a kind, and what asks for it, unless
-- its mode holds

abbrev pub has_entered : Mode → Option Mode → Bool
has_entered mode None = false
has_entered mode (Some other) = is_mode mode other

abbrev pub mode_after : Mode → Option Mode → Mode
mode_after old entered = unwrap_or entered old

abbrev pub moment_where : Bool → ℕ → Option ℕ
moment_where turned moment = if turned then Some moment else None

abbrev pub is_coming_to_level_0 : Option TrainLevel → Bool
is_coming_to_level_0 level = option_map_or is_level_0 level false

-- of the kind of an area: its mode is entered, unless the driver chose that
abbrev pub call_of_areas : AreaMode → Mode → Bool → Life → Span → Option Mode → Call
call_of_areas kind mode chosen life train entered = record {
  turned = moment_where (has_entered mode entered && not chosen) (moment_of (tracks life.entries));
  asks = any_asks kind train (areas_of (tracks life.entries)) && not (is_mode mode (mode_after (mode_of life.entries) entered));
}

-- of level 0: its announcement came into force
abbrev pub call_of_level : Life → Span → Option TrainLevel → Call
call_of_level life train level = record {
  turned = moment_where (is_coming_to_level_0 level) (moment_of (tracks life.entries));
  asks = any_asks_for train.max_front (announced_level (tracks life.entries));
}

-- by the life before the mode is entered
abbrev pub calls_in : Life → Span → Option TrainLevel → Option Mode → Calls
calls_in life train level entered = record {
  on_sight = call_of_areas area.OnSight OnSight false life train entered;
  shunting = call_of_areas area.Shunting Shunting (is_shunting_choice (done_in life.entries)) life train entered;
  level_0 = call_of_level life train level;
}

-- what is called for is read by the areas as they were before the new mode deletes them (4.10)
abbrev pub the_mode_changes : Sentence
the_mode_changes now event =
    let train = train_in now event in
    let mode = entered_in now train in
    record event { track = record event.track { entered = mode }; calls = calls_in now train event.level mode }

-- ---- the calls are settled: of which kinds an area or an announcement is left once the mode that was entered has
-- deleted what it deletes

abbrev pub left_in : List track.TrackEntry → Span → Left
left_in reported train = record {
  on_sight = any_remains area.OnSight train.min_front (areas_of reported);
  shunting = any_remains area.Shunting train.min_front (areas_of reported);
  level_0 = is_level_0_announced (announced_level reported);
}

abbrev pub the_calls_are_settled : Sentence
the_calls_are_settled now event = record event { left = left_in (tracks now.entries) (train_in now event) }

-- ---- the track far behind the train is forgotten

abbrev pub passed_track_is_forgotten : Sentence
passed_track_is_forgotten now event =
    record event { track = record event.track { mark = Some (forgetting_mark (span_of now)) } }

-- ---- the whole event: the sentences in their order, each by the life with what those before it have written

abbrev pub sentences : List Sentence
sentences =
    the_train_is_seen
    ∷ the_mode_changes
    ∷ the_calls_are_settled
    ∷ passed_track_is_forgotten
    ∷ []

abbrev pub written : List Sentence → Life → SupervisionEntry → SupervisionEntry
written [] life event = event
written (sentence ∷ later) life event = written later life (sentence (grown life event) event)

abbrev pub entry_of : Life → inputs.Input → SupervisionEntry
entry_of life input = written sentences life (initial (reported life input) (deed_of life input))

-- a power-up: nothing but the place and the forgetting mark
abbrev pub powered_up_in : Life → SupervisionEntry
powered_up_in life = initial (powered_up (length_of life)) None

-- a life begins with what was kept
abbrev pub initial_life : Kept → Cold → Life
initial_life kept cold =
    let empty : Life = record { kept = kept; cold = cold; entries = [] } in grown empty (powered_up_in empty)
