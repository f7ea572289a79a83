-- What is played of a scenario on a journal in memory (this project's profile). Lists of events have the newest
-- first, lists of steps and of outputs the oldest first. Steps, sectors and slots are numbered from 0, blocks from 1.

-- Taken for granted: a disk in memory keeps to the model of a device (`Memory` of `disk`), and what a life leaves on a
-- disk and releases is what `whole_lives` says of `live`.
use Rattle.std.specs.Prelude.{◌≡◌, ℕ, ◌*◌, Bool, true, false, IsTrue, List, [], ◌∷◌, ◌++◌, length, take, Option, Some, None, Result, Ok, Err}
use Rattle.std.specs.Option.{option_map_or}
use Rattle.blocks.specs.FirstSector.{sectors_of}
use Rattle.disk.specs.State.{State, contents_of, Holds}
use Rattle.events.specs.declared.input.Event.{Event}
use Rattle.events.specs.declared.input.Event.TheVariants.{PowerUp}
use Rattle.events.specs.declared.step.Step.{Step}
use Rattle.journal.specs.Formats.{IsEmptied}
use Rattle.mode_table.specs.declared.statuses.Cold.{Cold}
use Rattle.onboard.specs.Progress.{starting_with}
use Rattle.onboard.specs.declared.errors.AcceptError.TheVariants as an_accept
use Rattle.onboard.specs.declared.errors.FlushError.TheVariants as a_flush
use Rattle.onboard.specs.declared.released.Released.{Released}
use Rattle.ring.specs.Account.{Account, DescribesNothing}
use Rattle.ring.specs.Slots.{IsAtRest}
use Rattle.serde_json.specs.Data.{Data}
use Rattle.simulator.specs.Lives.{life_in}
use Rattle.unit_start.specs.Events.{pairs_of}
use Rattle.unit_start.specs.Lives.{IsReady, IsNextNumber}
use Rattle.whole_lives.specs.Runs.{Lives, durable_by}
use Rattle.whole_lives.specs.Stops.{AllStand, Stopped, OnlyOpens, IsDone, step_of}
use Rattle.whole_lives.specs.Written.{LeavesLast}
use Rattle.whole_lives.specs.declared.errors.LiveError.{LiveError}
use Rattle.whole_lives.specs.declared.errors.LiveError.TheVariants as a_live

-- an empty journal of so many slots, as `journal::format` makes it
pub record IsEmpty (slots : ℕ) (disk : State) : Type 0 where
  -- the first sector is the one for so many slots, and the gates hold zeros
  pub emptied : IsEmptied slots (contents_of disk)
  -- no sector is open, and no block is there
  pub rest : (account : Account) → DescribesNothing account → IsAtRest slots 0 account disk

-- the bytes are those of the disk's sectors, one after the other
abbrev pub AreBytesOf : State → List ℕ → Type 0
AreBytesOf disk bytes = (length bytes ≡ 512 * disk.sectors) × Holds (contents_of disk) 0 bytes

-- ---- how a life ends

-- whether the error names a step that was refused for a cause of its own: not for memory, nor for the device
abbrev pub is_refusal : LiveError → Bool
is_refusal (a_live.Open e) = false
is_refusal (a_live.Accept k an_accept.Failed) = true
is_refusal (a_live.Accept k an_accept.PendingFull) = true
is_refusal (a_live.Accept k an_accept.ClockBack) = true
is_refusal (a_live.Accept k an_accept.NoMemory) = false
is_refusal (a_live.Flush k a_flush.Failed) = true
is_refusal (a_live.Flush k a_flush.WornOut) = true
is_refusal (a_live.Flush k a_flush.DeviceFault) = false
is_refusal (a_live.NoMemory k) = false

-- whether a life came to its end, or to such a step
abbrev pub is_played : {T : Type 0} → Result T LiveError → Bool
is_played (Ok x) = true
is_played (Err error) = is_refusal error

-- Its power-up is in the block of this number. No step has a cause to be refused; or the life stopped at the first one that
-- has.
abbrev pub PlayEnds : {T : Type 0} → ℕ → List Step → Result T LiveError → Type 0
PlayEnds number steps (Ok x) = AllStand (starting_with number) steps
PlayEnds number steps (Err error) = IsTrue (is_refusal error) × Stopped (starting_with number) steps error

-- the steps that were carried out: all, or those before the one that was refused
abbrev pub carried_out : {T : Type 0} → List Step → Result T LiveError → List Step
carried_out steps (Ok x) = steps
carried_out steps (Err error) = option_map_or (λ number. take number steps) (step_of error) []

-- exactly the outputs of the events that the steps which were carried out made durable, after these
abbrev pub AreOutputs : {T : Type 0} → List Event → List Step → Result T LiveError → List Released → Type 0
AreOutputs initial steps ended released = pairs_of (durable_by initial (carried_out steps ended)) ≡ pairs_of initial ++ released

-- ---- a life that was played

-- A life of these steps was played on an empty journal of so many slots: `live` answered this on its disk.
pub record IsPlayed {T : Type 0} (slots : ℕ) (cold : Cold) (steps : List Step) (ended : Result T LiveError) (released : List Released) (new : State) : Type 0 where
  -- the disk before the life; `new` is the one that it handed back
  pub old : State
  -- before it the journal was empty
  pub empty : IsEmpty slots old
  -- the cold movement value that the power-up recorded
  pub recorded_cold : Cold
  -- it is a life by the contract of `live`
  pub life : Lives 0 [] [] [] cold recorded_cold steps old new [] released
  -- it released exactly what the steps before its end ask for
  pub done : IsDone (PowerUp recorded_cold ∷ []) steps (OnlyOpens 0 [] [] [] recorded_cold old new) ended life.steps_taken life.durable_at_end life.accepted_at_end life.released
  -- where it didn't stop, the newest block is that of its last flush of something pending
  pub last : LeavesLast [] recorded_cold steps ended new
  -- the disk has the size of such a journal
  pub sectors : new.sectors ≡ sectors_of slots
  -- no step has a cause to be refused, or it stopped at the first one that has
  pub ends : PlayEnds 1 steps ended
  -- the outputs are those that the definitions say
  pub outputs : AreOutputs (PowerUp cold ∷ []) steps ended released

-- A life of these steps was played on a disk that was ready for `durable` and `accepted`: `live` answered this. For the
-- next life the disk is ready for what is durable and accepted at its end (`ready_at_end` of `life`).
pub record IsPlayedAfter {T : Type 0} (durable accepted : List Event) (cold : Cold) (steps : List Step) (ended : Result T LiveError) (released : List Released) (old new : State) : Type 0 where
  -- the events that it found, one of the two
  pub found : List Event
  -- the cold movement value that the power-up recorded
  pub recorded_cold : Cold
  -- it is a life by the contract of `live`
  pub life : Lives 0 durable accepted found cold recorded_cold steps old new [] released
  -- it released exactly what the steps before its end ask for
  pub done : IsDone (PowerUp recorded_cold ∷ found) steps (OnlyOpens 0 durable accepted found recorded_cold old new) ended life.steps_taken life.durable_at_end life.accepted_at_end life.released
  -- where it didn't stop, the newest block is that of its last flush of something pending
  pub last : LeavesLast found recorded_cold steps ended new
  -- the disk is as large as it was
  pub sectors : new.sectors ≡ old.sectors
  -- the number of its power-up's block, the next one
  pub number : ℕ
  pub next : IsNextNumber old.sectors (contents_of old) number
  -- no step has a cause to be refused, or it stopped at the first one that has
  pub ends : PlayEnds number steps ended
  -- the outputs are those that the definitions say
  pub outputs : AreOutputs (PowerUp recorded_cold ∷ found) steps ended released

-- what a disk is ready for it stays ready for
abbrev pub StaysReady : State → State → Type 0
StaysReady old new = (durable accepted : List Event) → IsReady 0 durable accepted old → IsReady 0 durable accepted new

-- ---- a scenario that was played

-- what the train knows of movements without power: what is given, else what the scenario says
abbrev pub cold_by : Option Cold → Cold → Cold
cold_by None own_cold = own_cold
cold_by (Some given) own_cold = given

-- the life that the value of the scenario describes was played
abbrev pub PlaysOne : {T : Type 0} → Data → Option Cold → ℕ → Result T LiveError → List Released → State → Type 0
PlaysOne value given slots ended released new =
    (own_cold : Cold) × (steps : List Step) × (life_in value ≡ Ok (own_cold, steps)) × IsPlayed slots (cold_by given own_cold) steps ended released new

-- the same on a disk that was ready for these events
abbrev pub PlaysAfter : {T : Type 0} → (durable accepted : List Event) → Data → Option Cold → Result T LiveError → List Released → State → State → Type 0
PlaysAfter durable accepted value given ended released old new =
    (own_cold : Cold) × (steps : List Step) × (life_in value ≡ Ok (own_cold, steps)) × IsPlayedAfter durable accepted (cold_by given own_cold) steps ended released old new
