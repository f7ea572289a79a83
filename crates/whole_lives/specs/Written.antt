-- What the newest block of a disk holds (this project's profile). Lists of events have the newest first; lists of
-- records and of steps have the oldest first. Sizes of disks are in sectors of 512 bytes; blocks are numbered from 1
-- on.

-- Taken for granted: the clauses that name these definitions speak of an honest disk, after calls that answered Ok.
use Rattle.std.specs.Prelude.{◌≡◌, ℕ, ◌==◌, if◌then◌else◌, List, [], ◌∷◌, ◌++◌, length, Result, OnOk}
use Rattle.blocks.specs.declared.records.Record.{Record}
use Rattle.disk.specs.State.{State, contents_of}
use Rattle.events.specs.declared.input.Event.{Event}
use Rattle.events.specs.declared.input.Event.TheVariants as an_event
use Rattle.events.specs.declared.step.Step.{Step}
use Rattle.events.specs.declared.step.Step.TheVariants.{Accept, Flush}
use Rattle.mode_table.specs.declared.statuses.Cold.{Cold}
use Rattle.unit_start.specs.Written.{HasNewest}
use Rattle.unit_start.specs.Events.{records_of}
use Rattle.whole_lives.specs.Runs.{accept_one, flush_one, durable_by}

-- that block has the records of the durable events after those of an earlier list, and what is kept after all of them
abbrev pub IsLastWritten : ℕ → List Event → List Event → (ℕ → List ℕ) → Type 0
IsLastWritten sectors earlier durable image =
    (records : List Record) × (records_of durable ≡ records_of earlier ++ records) × HasNewest sectors records durable image

-- What was durable before the last block was written, after one more step: a flush writes a block where something is
-- pending.
abbrev pub earlier_one : List Event → List Event → List Event → Step → List Event
earlier_one earlier durable accepted (Accept input) = earlier
earlier_one earlier durable accepted Flush = if length accepted == length durable then earlier else durable

abbrev pub earlier_by : List Event → List Event → List Event → List Step → List Event
earlier_by earlier durable accepted [] = earlier
earlier_by earlier durable accepted (step ∷ steps) =
    earlier_by (earlier_one earlier durable accepted step) (flush_one durable accepted step) (accept_one accepted step) steps

-- At Ok the newest block of the disk is that of the last flush that wrote one, or of the power-up, where none did.
abbrev pub LeavesLast : {T E : Type 0} → List Event → Cold → List Step → Result T E → State → Type 0
LeavesLast found power_up_cold steps ended new = (let initial = an_event.PowerUp power_up_cold ∷ found in
    OnOk ended (IsLastWritten new.sectors (earlier_by found initial initial steps) (durable_by initial steps) (contents_of new)))
