-- What outlives a loss of power of the level and of the position, with their status, read off the whole list with all
-- its lives (SUBSET-026, 4.10; the statuses at a power-up: this project's profile). Distances are centimetres. Lists of
-- events have the newest first.
--
-- They don't say that the cold movement value of a power-up is true.
use Rattle.std.specs.Prelude.{◌≡◌, List, [], ◌∷◌}
use Rattle.driver.specs.declared.datum.Datum.{Datum}
use Rattle.driver.specs.declared.datum.Datum.TheVariants.{Unknown}
use Rattle.driver.specs.Data.{met_by}
use Rattle.driver.specs.Description.{datum_after, level_reported}
use Rattle.events.specs.declared.input.Event.{Event}
use Rattle.events.specs.declared.input.Event.TheVariants.{PowerUp, Input}
use Rattle.events.specs.Kept.{PositionFrom}
use Rattle.mode_table.specs.declared.level.TrainLevel.{TrainLevel}
use Rattle.mode_table.specs.declared.statuses.Item.TheVariants as item
use Rattle.mode_table.specs.Statuses.{power_up_status}
use Rattle.track_picture.specs.History.{place_of, group_of_fix}
use Rattle.mode_control.specs.History.{tracks, deeds}
use Rattle.mode_control.specs.Sentences.{entry_of}
use Rattle.kernel.specs.Lives.{life_of, kept_by}
use Rattle.kernel.specs.Position.{position_by}

-- ---- the level: a power-up meets it by its cold movement value; an input, by what the driver does, by a level that
-- comes into force and by the mode that is entered

abbrev pub level_over : List Event → Datum TrainLevel
level_over [] = Unknown
level_over (PowerUp cold ∷ events) = met_by (power_up_status item.Level cold) (level_over events)
level_over (Input input ∷ events) = datum_after level_reported (level_over events) (deeds (entry_of (life_of events) input ∷ []))

abbrev pub LevelOverAll : Type 0
LevelOverAll = (events : List Event) → (kept_by events).level ≡ level_over events

-- ---- the position: by the last fix of the life; where it has none, it goes on by the estimate from what the power-up
-- left, which meets the position of before by its word

abbrev pub position_from : Datum PositionFrom → List Event → Datum PositionFrom
position_from left events =
    let reported = tracks (life_of events).entries in position_by (group_of_fix reported) left (place_of reported)

abbrev pub position_left : List Event → Datum PositionFrom
position_left [] = Unknown
position_left (PowerUp cold ∷ events) = met_by (power_up_status item.Position cold) (position_from (position_left events) events)
position_left (Input input ∷ events) = position_left events

abbrev pub PositionOverAll : Type 0
PositionOverAll = (events : List Event) → (kept_by events).position ≡ position_from (position_left events) events
