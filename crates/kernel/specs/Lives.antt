-- A list of events, the newest first, is cut into lives at each power-up. What a life says is read off what was kept
-- of the lives before it and off its own entries, and off nothing else (this project's profile). Counts are numbers of
-- events. A reader may take for granted that equipment which never had power keeps nothing.
use Rattle.std.specs.Prelude.{ℕ, suc, ◌+◌, ◌-◌, ◌^◌, min, List, [], ◌∷◌}
use Rattle.driver.specs.Data.{value_of, met_by}
use Rattle.events.specs.declared.input.Event as events
use Rattle.events.specs.declared.input.Event.TheVariants.{PowerUp, Input}
use Rattle.events.specs.declared.kept.Kept.{Kept}
use Rattle.events.specs.Nothing.{nothing_kept}
use Rattle.mode_table.specs.declared.statuses.Cold.{Cold}
use Rattle.mode_table.specs.declared.statuses.Cold.TheVariants as cold
use Rattle.mode_table.specs.declared.statuses.Item.TheVariants as item
use Rattle.mode_table.specs.Statuses.{power_up_status}
use Rattle.mode_control.specs.Life.{Life, track_of, driver_of, grown}
use Rattle.mode_control.specs.Sentences.{entry_of, initial_life}
use Rattle.track_picture.specs.StandsFor.{national_of}
use Rattle.kernel.specs.declared.counts.Counts.{Counts}
use Rattle.kernel.specs.Position.{position_of}

-- ---- the counts: how many events there were, and how many of them were power-ups, up to the greatest numbers of 64
-- and of 32 bits

abbrev pub one_more : ℕ → ℕ → ℕ
one_more count most = min (count + 1) most

abbrev pub counted : Counts → events.Event → Counts
counted counts (PowerUp cold) = record { events = one_more counts.events (2 ^ 64 - 1); lives = one_more counts.lives (2 ^ 32 - 1) }
counted counts (Input input) = record { events = one_more counts.events (2 ^ 64 - 1); lives = counts.lives }

abbrev pub counts_of : List events.Event → Counts
counts_of [] = record { events = 0; lives = 0 }
counts_of (event ∷ events) = counted (counts_of events) event

-- ---- what is kept of a life: the driver's identity, the running number and the train data that were entered last,
-- never valid after a power-up; level and position as they are; the national values in force; an outstanding trip; the
-- counts

abbrev pub kept_of : Counts → Life → Kept
kept_of counts life = record {
  identity = value_of (driver_of life).identity;
  running_number = value_of (driver_of life).running_number;
  train_data = value_of (driver_of life).train_data;
  level = (driver_of life).level;
  position = position_of life;
  national = (national_of (track_of life)).in_force;
  trip_outstanding = (driver_of life).trip_outstanding;
  events = counts.events;
  lives = counts.lives;
}

-- ---- the life that a list of events is in

-- before the first event
abbrev pub no_life : Life
no_life = record { kept = nothing_kept; cold = cold.Unknown; entries = [] }

-- a power-up begins a life with what was kept; an input adds what it does
abbrev pub life_after : Kept → Life → events.Event → Life
life_after kept life (PowerUp cold) = initial_life kept cold
life_after kept life (Input input) = grown life (entry_of life input)

abbrev pub life_of : List events.Event → Life
life_of [] = no_life
life_of (event ∷ events) = life_after (kept_of (counts_of events) (life_of events)) (life_of events) event

-- what a power-up leaves of what was kept, by what is known of movements while the power was off
abbrev pub left_by : Cold → Kept → Kept
left_by cold kept = record kept {
  level = met_by (power_up_status item.Level cold) kept.level;
  position = met_by (power_up_status item.Position cold) kept.position;
}

-- what a power-up keeps of these events
abbrev pub kept_by : List events.Event → Kept
kept_by events = kept_of (counts_of events) (life_of events)

-- ---- the past of an event, as far as it bears on what is answered: the life that the event comes in, and what a
-- power-up keeps. It may be that of a list of events, or what a head of a block says, whatever came before

pub record Past : Type 0 where
  pub life : Life
  pub kept : Kept

abbrev pub past_of : List events.Event → Past
past_of events = record { life = life_of events; kept = kept_by events }

-- before the power-up of a life, of which only this is known to be kept
abbrev pub past_by : Kept → Past
past_by kept = record { life = no_life; kept = kept }

abbrev pub counts_in : Kept → Counts
counts_in kept = record { events = kept.events; lives = kept.lives }

abbrev pub past_in : Counts → Life → Past
past_in counts life = record { life = life; kept = kept_of counts life }

-- one event more; that of a list is the past of the longer list
abbrev pub past_after : Past → events.Event → Past
past_after past event = past_in (counted (counts_in past.kept) event) (life_after past.kept past.life event)

-- ---- a story: what a head of a block says to be kept, whatever came before it, and the events since, the newest first

pub record Story : Type 0 where
  pub kept : Kept
  pub events : List events.Event

-- no event since
abbrev pub story_by : Kept → Story
story_by kept = record { kept = kept; events = [] }

-- that of a unit's events, from the very first one on
abbrev pub story_of : List events.Event → Story
story_of events = record { kept = nothing_kept; events = events }

-- one event more
abbrev pub onward : Story → events.Event → Story
onward story event = record { kept = story.kept; events = event ∷ story.events }

abbrev pub later_past : Past → List events.Event → Past
later_past past [] = past
later_past past (event ∷ events) = past_after (later_past past events) event

abbrev pub past_at : Story → Past
past_at story = later_past (past_by story.kept) story.events

-- how many events there were over all lives
abbrev pub number_from : ℕ → List events.Event → ℕ
number_from first [] = first
number_from first (event ∷ events) = suc (number_from first events)

abbrev pub number_at : Story → ℕ
number_at story = number_from story.kept.events story.events
