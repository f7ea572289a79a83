-- What a power-up promises (this project's profile). Lists of events have the newest first; lists of records have the
-- oldest first.

-- Taken for granted: of images it speaks where the disk is honest.
use Rattle.std.specs.Prelude.{◌≡◌, ◌⊎◌, ℕ, ℤ, ◌<◌, [], ◌∷◌, false, List, IsTrue, Result, Ok, Err, IfOk, IfErr, OnOk, MatchResult}
use Rattle.blocks.specs.FirstSector.{sectors_of}
use Rattle.disk.specs.State.{State, now, contents_of, Counted, IsImage, AtEachMoment}
use Rattle.events.specs.declared.input.Event.{Event}
use Rattle.events.specs.declared.input.Event.TheVariants.{PowerUp}
use Rattle.journal.specs.JournalState.{JournalState}
use Rattle.journal.specs.Journals.{IsOpen}
use Rattle.kernel.specs.StandsFor.{Knowledge}
use Rattle.mode_table.specs.declared.statuses.Cold.{Cold}
use Rattle.speed_profile.specs.declared.reported.CategorySpeeds.{CategorySpeeds}
use Rattle.track_store.specs.Segments.{Segmented}
use Rattle.unit_start.specs.Answers.{open_failed, is_device, is_met}
use Rattle.unit_start.specs.Events.{account_of, record_of, IsAhead}
use Rattle.unit_start.specs.Lives.{IsRecordedCold, IsReady, Opens, IsOpenRefusal, HasNoCause, IsNextNumber}
use Rattle.unit_start.specs.UnitState.{PartsState, initial}
use Rattle.unit_start.specs.Written.{HasNewest}
use Rattle.unit_start.specs.declared.errors.OpenError.{OpenError}
use Rattle.unit_start.specs.declared.errors.OpenError.TheVariants.{DeviceFault, NoMemory}

-- what a power-up leaves in the places of journal and state, seen as a unit without its disk
abbrev pub parts_after : {T : Type 0} → Result T OpenError → JournalState → Knowledge (Segmented ℤ) (Segmented CategorySpeeds) → Result PartsState OpenError
parts_after (Ok done) journal state = Ok (record { journal = journal; life = initial state journal.events })
parts_after (Err e) journal state = Err e

-- nothing is pending, there was no moment yet, and no flush failed
abbrev pub IsFresh : PartsState → Type 0
IsFresh unit = (unit.life.records ≡ []) × (unit.life.pairs ≡ []) × (unit.life.moment ≡ 0) × (unit.journal.failed ≡ false)

-- A power-up answers so to what the image of a disk of so many sectors holds.
pub record IsAnswerTo {T : Type 0} (sectors : ℕ) (image : ℕ → List ℕ) (result : Result T OpenError) : Type 0 where
  -- each refusal but NoMemory has its cause
  pub refused : IfErr result (λ e. (e ≡ NoMemory) ⊎ IsOpenRefusal sectors image e)
  -- where it is opened, there was no cause for any refusal but the device
  pub no_cause : OnOk result (HasNoCause sectors image)
  -- where a refusal has a cause, and the disk a sector, it is the one that comes, or the device failed, or memory was
  -- refused
  pub exact : 0 < sectors → (e : OpenError) → IsOpenRefusal sectors image e
      → (e ≡ DeviceFault) ⊎ MatchResult result (λ unit. ⊥) (λ back. (back ≡ NoMemory) ⊎ ((back ≡ e) ⊎ (back ≡ DeviceFault)))

-- A power-up goes on from a disk that was ready for `durable` and `accepted`.
pub record Continues (whole_from : ℕ) (durable accepted : List Event) (cold : Cold) (before after : State) (result : Result PartsState OpenError) : Type 0 where
  -- the events that it found: those that the first sync settled
  pub found : List Event
  -- the cold movement value that it records
  pub power_up_cold : Cold
  -- at each moment each image is one that a power-up may leave
  pub opens : Opens whole_from durable accepted found cold power_up_cold before after
  -- at Ok the journal represents what was found, with the power-up
  pub opened : IfOk result (λ unit. IsOpen unit.journal (account_of whole_from (PowerUp power_up_cold ∷ found)) after)
  -- the life is that of these events, none of which is pending
  pub ahead : IfOk result (λ unit. IsAhead (PowerUp power_up_cold ∷ found) (PowerUp power_up_cold ∷ found) unit.life)
  -- the newest block is that of the power-up's record and of what is kept after it
  pub last : OnOk result (HasNewest after.sectors (record_of found (PowerUp power_up_cold) ∷ []) (PowerUp power_up_cold ∷ found) (contents_of after))
  -- the value that is recorded is the one that the image leaves
  pub recorded : OnOk result (IsRecordedCold before.sectors (contents_of before) cold power_up_cold)
  -- it is refused only where the device failed, no number is left, or memory was refused
  pub met : IfErr result (λ e. IsTrue (is_met e) ⊎ (e ≡ NoMemory))

-- A power-up with this cold movement value took the disk from `before` to `after`. Wherever power is lost in it, what is
-- left is what the disk held, or that with the power-up; where it answers Ok, it is that with the power-up.
pub record PowersUp (cold : Cold) (before after : State) (result : Result PartsState OpenError) : Type 0 where
  -- the disk counts one fault exactly where the device failed, and keeps its size
  pub counted : Counted (open_failed result) before after
  -- it has the sectors of the journal's slots
  pub sectors : IfOk result (λ unit. after.sectors ≡ sectors_of unit.journal.slots)
  -- nothing is pending, there was no moment yet, and no flush failed
  pub fresh : IfOk result IsFresh
  -- the power-up is in the block after the greatest number
  pub next : IsTrue before.honest → IfOk result (λ unit. IsNextNumber before.sectors (contents_of before) unit.journal.newest)
  -- where no call failed, a refusal leaves the images that the first sync settled
  pub nothing_added : IsTrue before.honest → IfErr result (λ e. is_device e ≡ false → AtEachMoment before after (IsImage (now before)))
  -- each refusal has its cause, and each cause its refusal
  pub answers : IsTrue before.honest → IsAnswerTo before.sectors (contents_of before) result
  -- at each moment each image is one that a power-up may leave; at Ok the unit is after the power-up
  pub up : (whole_from : ℕ) (durable accepted : List Event) → IsTrue before.honest → IsReady whole_from durable accepted before
      → Continues whole_from durable accepted cold before after result
