-- What a flush promises (this project's profile). Lists of events have the newest first; lists of records and of
-- releases have the oldest first.

-- Taken for granted: of disks and images it speaks where the disk is honest.
use Rattle.std.specs.Prelude.{◌≡◌, ℕ, ◌<◌, ◌||◌, IsTrue, List, length, Result, Err, IfOk, IfErr, OnOk, OnErr, MatchOption}
use Rattle.arrayvec.specs.ArrayVec.{ArrayVec}
use Rattle.disk.specs.State.{State, contents_of, Counted, AtEachMoment}
use Rattle.events.specs.declared.input.Event.{Event}
use Rattle.events.specs.declared.step.Step.TheVariants.{Flush}
use Rattle.journal.specs.Journals.{IsOpen, IsWritten}
use Rattle.kernel.specs.Lives.{kept_by}
use Rattle.onboard.specs.Answers.{flush_failed, flush_refusal}
use Rattle.onboard.specs.Progress.{progress_of, go_on}
use Rattle.onboard.specs.declared.errors.FlushError.{FlushError}
use Rattle.onboard.specs.declared.errors.FlushError.TheVariants.{DeviceFault}
use Rattle.unit_start.specs.Events.{account_of, IsAhead}
use Rattle.unit_start.specs.Lives.{DescribesEither}
use Rattle.unit_start.specs.Releases.{Release}
use Rattle.unit_start.specs.UnitState.{UnitState, PartsState}
use Rattle.unit_start.specs.Written.{HasNewest}

-- a unit seen without its disk
abbrev pub without_disk : {D : Type 0} → UnitState D → PartsState
without_disk unit = record { journal = unit.journal; life = unit.life }

-- what is released, the oldest first
abbrev pub releases_in : ArrayVec Release → List Release
releases_in pairs = pairs.items

-- A flush took the unit `old` to `new`, on a disk that went from `before` to `after`. Where it answers Ok, all that was
-- accepted is durable, and what was pending is released; `releases` says what the answer releases. Wherever power is
-- lost in it, what is left is what was durable before, or all that was accepted.
pub record Flushes {R : Type 0} (releases : R → List Release) (before after : State) (old new : PartsState) (result : Result R FlushError) : Type 0 where
  -- the disk counts one fault exactly where the device failed, and keeps its size
  pub counted : Counted (flush_failed result) before after
  -- after a fault of the device the unit has failed
  pub failed : new.journal.failed ≡ (old.journal.failed || flush_failed result)
  -- each refusal comes exactly for its cause, in this order; where there is none, only the device may fail
  pub exact : MatchOption (flush_refusal old.journal.failed (length old.life.records) old.journal.newest) (IfErr result (λ e. e ≡ DeviceFault)) (λ e. result ≡ Err e)
  -- an error releases nothing: what was pending still is
  pub kept : OnErr result (new.life ≡ old.life)
  -- what is released is what was pending, all of it
  pub released : IfOk result (λ pairs. releases pairs ≡ old.life.pairs)
  -- nothing is pending then, and the next block has the next number
  pub gone_on : OnOk result (progress_of new.journal new.life ≡ go_on (progress_of old.journal old.life) Flush)
  -- at each moment each image represents the durable events, or all accepted ones
  pub any_moment : (whole_from : ℕ) (durable accepted : List Event) → IsTrue before.honest → IsOpen old.journal (account_of whole_from durable) before → IsAhead durable accepted old.life
      → AtEachMoment before after (DescribesEither whole_from before.sectors durable accepted)
  -- after a flush of what was pending the newest slot has the gate of its number, and after it the block of format 3 of
  -- exactly these records and of what is kept after all accepted events
  pub written : (durable accepted : List Event) → IsTrue before.honest → IsAhead durable accepted old.life → 0 < length old.life.records
      → OnOk result (IsWritten new.journal.slots new.journal.newest old.life.records (kept_by accepted) (contents_of after))
  -- it is the block of the greatest number
  pub last : (whole_from : ℕ) (durable accepted : List Event) → IsTrue before.honest → IsOpen old.journal (account_of whole_from durable) before → IsAhead durable accepted old.life → 0 < length old.life.records
      → OnOk result (HasNewest after.sectors old.life.records accepted (contents_of after))
  -- all accepted events are durable then
  pub flushed : (whole_from : ℕ) (durable accepted : List Event) → IsTrue before.honest → IsOpen old.journal (account_of whole_from durable) before → IsAhead durable accepted old.life
      → OnOk result (IsOpen new.journal (account_of whole_from accepted) after × IsAhead accepted accepted new.life)
