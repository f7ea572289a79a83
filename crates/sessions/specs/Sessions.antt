-- What the program does with a disk, and what it writes (this project's profile). Lists of events have the newest
-- first; lists of steps, of releases and of bytes have the oldest first. Sizes of images are in bytes, and in blocks of
-- six sectors.

-- Taken for granted: where a write failed, nothing is said of what was written. A session is a life on an honest disk.
use Rattle.std.specs.Prelude.{◌≡◌, ◌⊎◌, ℕ, ◌*◌, List, [], ◌∷◌, ◌++◌, Bool, true, false, IsTrue, Option, Some, None, Result, IfOk, codes, decimal}
use Rattle.std.specs.Io.KnownBytes.{Appends}
use Rattle.blocks.specs.FirstSector.{sectors_of}
use Rattle.disk.specs.State.{State, Counted}
use Rattle.events.specs.declared.input.Event.{Event}
use Rattle.events.specs.declared.input.Event.TheVariants.{PowerUp}
use Rattle.text_output.specs.declared.status.Status.{Status}
use Rattle.text_output.specs.declared.status.Status.TheVariants.{Done, Refused, Usage, Device}
use Rattle.journal.specs.declared.errors.FormatError.TheVariants.{DeviceFault}
use Rattle.events.specs.declared.step.Step.{Step}
use Rattle.mode_table.specs.declared.statuses.Cold.{Cold}
use Rattle.whole_lives.specs.declared.errors.LiveError.{LiveError}
use Rattle.onboard.specs.declared.released.Released.{Released}
use Rattle.unit_start.specs.Lives.{IsReady}
use Rattle.whole_lives.specs.Runs.{IsOfLife, Lives}
use Rattle.whole_lives.specs.Stops.{LifeEnds, OnlyOpens, IsDone, IsUnflushed}
use Rattle.whole_lives.specs.Written.{LeavesLast}
use Rattle.reader.specs.Listings.{AddsListing, IsListingRefusal}
use Rattle.reader.specs.declared.errors.ListingError.{ListingError}
use Rattle.simulator.specs.declared.fault.ScenarioFault.{ScenarioFault}
use Rattle.simulator.specs.declared.fault.ScenarioFault.TheVariants.{NoMemory}
use Rattle.simulator.specs.Scenarios.{Describes, FaultOf}
use Rattle.sessions.specs.declared.images.Image.{Image}
use Rattle.sessions.specs.declared.images.Image.TheVariants.{Unopened, Missing, Opened}
use Rattle.sessions.specs.Lines.{lines_of}
use Rattle.sessions.specs.Reasons.{ending_of, status_of, format_reason, listing_reason, listing_status, fault_reason, refusal_of}

-- where the write succeeded, just this text came after what was written, and the status is this one
abbrev pub Says : {E : Type 0} → Status → List ℕ → Option (List ℕ) → Option (List ℕ) → Result Status E → Type 0
Says wanted text before after answer = IfOk answer (λ status. (status ≡ wanted) × Appends before after text)

abbrev pub is_device : Status → Bool
is_device Done = false
is_device Refused = false
is_device Usage = false
is_device Device = true

-- ---- a life

-- a line a release, in their order, and after them the line of the end, if the life stopped
abbrev pub report_of : {T : Type 0} → List Released → Result T LiveError → List ℕ
report_of released ended = lines_of released ++ ending_of ended

-- A life, as the program writes it, on a disk whose images each represented `durable` or `accepted`. `cold` is the word
-- on movements without power that was handed in; `before` and `after` are what was written, where that is known.
pub record Session {E : Type 0} (whole_from : ℕ) (durable accepted : List Event) (cold : Cold) (steps : List Step) (old new : State) (before after : Option (List ℕ)) (answer : Result Status E) : Type 0 where
  -- the events on which the life goes on, the newest first
  pub found : List Event
  -- the cold movement value that the power-up recorded
  pub power_up_cold : Cold
  -- the outputs that the life released, the oldest first
  pub released : List Released
  -- how the life ended: where it stopped, the step and why
  pub ended : Result (Unit {0}) LiveError
  -- it is a life by the contract of `whole_lives::live`
  pub life : Lives whole_from durable accepted found cold power_up_cold steps old new [] released
  -- it released exactly what the steps before its end ask for, and nothing where it wasn't opened
  pub done : IsDone (PowerUp power_up_cold ∷ found) steps (OnlyOpens whole_from durable accepted found power_up_cold old new) ended life.steps_taken life.durable_at_end life.accepted_at_end life.released
  -- a flush for whose releases memory was refused put nothing on the disk
  pub unflushed : IsUnflushed whole_from (IsOfLife whole_from old.sectors durable accepted found power_up_cold) steps ended life.durable_at_end old new
  -- where it didn't stop, the newest block is that of its last flush of something pending
  pub last : LeavesLast found power_up_cold steps ended new
  -- where it stopped, that is at the first step that isn't carried out, for its cause
  pub stopped : LifeEnds old steps ended
  -- where all writes succeeded, just the report of what was released came after the text, with the status of the end
  pub reported : Says (status_of ended) (report_of released ended) before after answer

-- ---- from the bytes of a scenario to what is written

-- the bytes say this life, of a cold movement value and steps
abbrev pub DescribesOne : List ℕ → (Cold → List Step → Type 0) → Type 0
DescribesOne bytes P = (cold : Cold) × (steps : List Step) × Describes bytes cold steps × P cold steps

-- A scenario and an image, end to end: by what became of the image. It was not opened, for the scenario has a fault, or
-- memory was refused; it is missing; or it was opened, and on an honest disk the session is that of the life which the
-- scenario reports. Whatever the disk does, the status is that of a device exactly where the device failed. The image
-- is opened by a call, which `gives` relates to its answers, and `state` is how contracts see a disk.
abbrev pub Plays : {D O E : Type 0} → (D → State) → (O → Option D → Type 0) → List ℕ → O → Image D O → Option (List ℕ) → Option (List ℕ) → Result Status E → Type 0
Plays state gives bytes opener (Unopened same) before after answer =
    (same ≡ opener) × (fault : ScenarioFault) × ((fault ≡ NoMemory) ⊎ FaultOf bytes fault) × Says Refused (refusal_of (fault_reason fault)) before after answer
Plays state gives bytes opener Missing before after answer =
    DescribesOne bytes (λ cold steps. gives opener None × Says Device (codes "device\n") before after answer)
Plays {D} state gives bytes opener (Opened new) before after answer =
    DescribesOne bytes (λ cold steps. (old : D) × gives opener (Some old)
    × IfOk answer (λ status. Counted (is_device status) (state old) (state new))
    × ((whole_from : ℕ) (durable accepted : List Event) → IsTrue (state old).honest → IsReady whole_from durable accepted (state old) → Session whole_from durable accepted cold steps (state old) (state new) before after answer))

-- ---- an image is made

-- the line of an image that was made, of so many blocks
abbrev pub formatted_line : ℕ → List ℕ
formatted_line blocks = codes "formatted " ++ decimal blocks ++ codes " blocks " ++ decimal (512 * sectors_of blocks) ++ codes " bytes\n"

-- Nothing speaks against it before the first write: the image was made, and its line written, or the device failed, and
-- the line of that.
abbrev pub IsFormatReport : ℕ → Option (List ℕ) → Option (List ℕ) → Status → Type 0
IsFormatReport blocks before after status =
    ((status ≡ Done) × Appends before after (formatted_line blocks))
    ⊎ ((status ≡ Device) × Appends before after (refusal_of (format_reason DeviceFault)))

-- ---- a journal is listed

-- At Done just the listing of the image was written. Else the last line is that of a refusal, which has its cause, and
-- before it stands what the refused listing wrote.
abbrev pub IsListed : ℕ → (ℕ → List ℕ) → Option (List ℕ) → Option (List ℕ) → Status → Type 0
IsListed sectors image before after status =
    ((status ≡ Done) × AddsListing sectors image before after)
    ⊎ ((error : ListingError) × (status ≡ listing_status error)
    × (mid : Option (List ℕ)) × IsListingRefusal sectors image before mid error × Appends mid after (refusal_of (listing_reason error)))
