-- What contracts see of a unit (this project's profile). A moment is in milliseconds.
use Rattle.std.specs.Prelude.{ℕ, ℤ, List, []}
use Rattle.blocks.specs.declared.records.Record.{Record}
use Rattle.journal.specs.JournalState.{JournalState}
use Rattle.kernel.specs.StandsFor.{Knowledge}
use Rattle.speed_profile.specs.declared.reported.CategorySpeeds.{CategorySpeeds}
use Rattle.track_store.specs.Segments.{Segmented}
use Rattle.unit_start.specs.Releases.{Release}

-- What is in memory of a life: what the kernel knows after the accepted events, how many there were, the last moment,
-- and of those that are pending the records and what a flush releases.
pub record LifeState : Type 0 where
  pub state : Knowledge (Segmented ℤ) (Segmented CategorySpeeds)
  pub events : ℕ
  pub moment : ℕ
  pub records : List Record
  pub pairs : List Release

-- a unit: its disk, the journal on it, and the life
pub record UnitState (D : Type 0) : Type 0 where
  pub disk : D
  pub journal : JournalState
  pub life : LifeState

-- a life after its power-up: nothing is pending
abbrev pub initial : Knowledge (Segmented ℤ) (Segmented CategorySpeeds) → ℕ → LifeState
initial state events = record { state = state; events = events; moment = 0; records = []; pairs = [] }

-- what a unit has along with its disk
pub record PartsState : Type 0 where
  pub journal : JournalState
  pub life : LifeState
