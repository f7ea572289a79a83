-- How far a life is (this project's profile). Moments of the clock are in milliseconds; blocks are numbered from 1 on.
use Rattle.std.specs.Prelude.{ℕ, ◌+◌, ◌==◌, Bool, false, if◌then◌else◌, length}
use Rattle.events.specs.declared.step.Step.{Step}
use Rattle.events.specs.declared.step.Step.TheVariants.{Accept, Flush}
use Rattle.journal.specs.JournalState.{JournalState}
use Rattle.unit_start.specs.Events.{moment_after}
use Rattle.unit_start.specs.UnitState.{LifeState}

-- What the next refusal goes by.
pub record Progress : Type 0 where
  -- whether a flush failed
  pub failed : Bool
  -- how many events are pending
  pub pending : ℕ
  -- the last moment that the clock gave, in milliseconds
  pub moment : ℕ
  -- the number of the newest block
  pub newest : ℕ

abbrev pub progress_of : JournalState → LifeState → Progress
progress_of journal life = record { failed = journal.failed; pending = length life.records; moment = life.moment; newest = journal.newest }

-- after a power-up in the block of this number
abbrev pub starting_with : ℕ → Progress
starting_with newest = record { failed = false; pending = 0; moment = 0; newest = newest }

-- after one more step: an input is pending; a flush writes a block, where something is pending
abbrev pub go_on : Progress → Step → Progress
go_on so (Accept input) = record { failed = so.failed; pending = so.pending + 1; moment = moment_after so.moment input; newest = so.newest }
go_on so Flush = record { failed = so.failed; pending = 0; moment = so.moment; newest = if so.pending == 0 then so.newest else so.newest + 1 }
