-- What the calls do to what a handle holds (this project's profile): None where no unit is open. `reported` is what the
-- call of `RelayedUnit` answered, the status its number.
use Rattle.std.specs.Prelude.{◌≡◌, ◌↔◌, ℕ, ◌+◌, ◌<◌, ◌≤◌, ◌∷◌, ◌&&◌, ◌||◌, not, is_some, nat_lt, Bool, true, if◌then◌else◌, List, [], length, Option, Some, None, Result, Err, IsOk, IfErr, OnOk, OnErr, MatchOption, ⊤}
use Rattle.events.specs.Limits.{most_pending}
use Rattle.events.specs.declared.input.Event.{Event}
use Rattle.events.specs.declared.input.Event.TheVariants.{Input as an_input}
use Rattle.events.specs.declared.input.Input.{Input}
use Rattle.events.specs.declared.step.Step.TheVariants.{Accept}
use Rattle.onboard.specs.Answers.{HasSpace}
use Rattle.unit_start.specs.Events.{IsAhead}
use Rattle.onboard.specs.Progress.{go_on}
use Rattle.onboard.specs.declared.errors.AcceptError.{AcceptError}
use Rattle.onboard.specs.declared.errors.AcceptError.TheVariants as an_accept
use Rattle.relayed_unit.specs.LifeNow.{DescribesLife}
use Rattle.relayed_unit.specs.Relayed.{Relayed, list_of, requests_of, input_refusal, progress_in, release_refusal, prepare_refusal, prepare_failed, IsFlushed, IsLeftBy, StaysOpen, WantsNothing}
use Rattle.relayed_unit.specs.declared.errors.PrepareError.{PrepareError}
use Rattle.relayed_unit.specs.declared.life_now.LifeNow.{LifeNow}
use Rattle.unit_calls.specs.Outputs.{description_of, last_of, AreHanded}
use Rattle.unit_calls.specs.Requests.{IfElse}
use Rattle.unit_calls.specs.Statuses.{of_accept, of_prepare, of_release}
use Rattle.unit_calls.specs.declared.outputs.EtcsOutput.{EtcsOutput}
use Rattle.unit_calls.specs.declared.outputs.EtcsState.{EtcsState}
use Rattle.unit_calls.specs.declared.handle.Opened.{Opened}
use Rattle.unit_calls.specs.declared.status.Status.{Status}
use Rattle.unit_calls.specs.declared.status.Status.TheVariants as a_status

-- a call on a handle: NotOpen where no unit is open, and nothing changes; else the unit stays open, and stands so to
-- the one before
abbrev pub OnHandle : Option Opened → Option Opened → Status → (Opened → Opened → Status → Type 0) → Type 0
OnHandle None None status So = status ≡ a_status.NotOpen
OnHandle None (Some after) status So = ⊥
OnHandle (Some before) None status So = ⊥
OnHandle (Some before) (Some after) status So = So before after status

-- the same of a call that writes into places of the caller: where no unit is open they stay as they were
abbrev pub OnHandleInto : Type 0 → Option Opened → Option Opened → Status → (Opened → Opened → Status → Type 0) → Type 0
OnHandleInto AsTheyWere None None status So = (status ≡ a_status.NotOpen) × AsTheyWere
OnHandleInto AsTheyWere None (Some after) status So = ⊥
OnHandleInto AsTheyWere (Some before) None status So = ⊥
OnHandleInto AsTheyWere (Some before) (Some after) status So = So before after status

-- what `RelayedUnit::accept` promises of an answer
pub record Accepts (input : Input) (before after : Relayed) (reported : Result ⊤ AcceptError) : Type 0 where
  -- each refusal comes exactly for its cause
  pub exact : MatchOption (input_refusal before input) (IfErr reported (λ e. e ≡ an_accept.NoMemory)) (λ e. reported ≡ Err e)
  -- memory is never refused where there is space for what the input adds
  pub quiet : input_refusal before input ≡ None → HasSpace before.moored.unit.life.state input → IsOk reported
  -- a refusal changes nothing
  pub refused : OnErr reported (after ≡ before)
  -- the disk is as it was
  pub disk : (after.moored.disk ≡ before.moored.disk) × (after.moored.unit.journal ≡ before.moored.unit.journal)
  -- what the next refusal goes by has gone on by this input
  pub gone_on : OnOk reported (progress_in after.moored ≡ go_on (progress_in before.moored) (Accept input))
  -- the event is then pending, after all that were accepted
  pub accepted : OnOk reported ((durable accepted : List Event) → IsAhead durable accepted before.moored.unit.life
      → IsAhead durable (an_input input ∷ accepted) after.moored.unit.life)
  -- what is held back stays, and so does what was said of the requests
  pub held : (after.outputs ≡ before.outputs) × (after.done ≡ before.done) × (after.failed ≡ before.failed)

-- an input is taken; one outside its limits is OutOfRange, and changes nothing
abbrev pub Takes : Option Input → Opened → Opened → Status → Type 0
Takes None before after status = (status ≡ a_status.OutOfRange) × (after ≡ before)
Takes (Some input) before after status = (reported : Result ⊤ AcceptError) × (status ≡ of_accept reported)
    × Accepts input before.unit after.unit reported × (after.last ≡ before.last)

-- what `RelayedUnit::prepare` promises of an answer
pub record IsPrepared (before after : Relayed) (reported : Result ⊤ PrepareError) : Type 0 where
  -- each refusal comes exactly for its cause
  pub exact : MatchOption (prepare_refusal before.failed before.moored) (IsOk reported) (λ e. reported ≡ Err e)
  -- whether the unit can't go on
  pub failed : after.failed ≡ (before.failed || prepare_failed reported)
  -- what was pending is flushed onto the disk, and held back
  pub flushes : OnOk reported (IsFlushed after.outputs before.moored after.moored)
  -- none of the requests is done yet
  pub initial : OnOk reported (after.done ≡ 0)
  -- a refusal holds nothing more back, and what was said of the requests stays
  pub held : OnErr reported ((after.outputs ≡ before.outputs) × (after.done ≡ before.done))
  -- and it leaves the unit and the disk as they were, but that a sector may be wanted
  pub undone : IfErr reported (λ e. IsLeftBy e before.moored after.moored)
  -- where nothing was pending there is no request
  pub nothing : OnOk reported (length before.moored.unit.life.records ≡ 0 → after.moored.disk ≡ before.moored.disk)
  -- where something was pending no sector is wanted then
  pub wants_nothing : OnOk reported (0 < length before.moored.unit.life.records → WantsNothing after.moored)

abbrev pub Prepares : Opened → Opened → Status → Type 0
Prepares before after status = (reported : Result ⊤ PrepareError) × (status ≡ of_prepare reported)
    × IsPrepared before.unit after.unit reported × (after.last ≡ before.last)

-- so many requests are said to be done: NoSuchRequest exactly where there are fewer, or more were said before, and then
-- nothing changes
abbrev pub Says : ℕ → Opened → Opened → Status → Type 0
Says count before after status = (taken : Bool)
    × ((taken ≡ true) ↔ ((count ≤ requests_of before.unit.moored) × (before.unit.done ≤ count)))
    × (status ≡ (if taken then a_status.Done else a_status.NoSuchRequest))
    × (after ≡ record before { unit = record before.unit { done = if taken then count else before.unit.done } })

-- one more request is said to be done
abbrev pub SaysNext : Opened → Opened → Status → Type 0
SaysNext before after status = Says (before.unit.done + 1) before after status

-- the medium failed
abbrev pub Fails : Opened → Opened → Status → Type 0
Fails before after status = (status ≡ a_status.Done) × (after ≡ record before { unit = record before.unit { failed = true } })

-- what `RelayedUnit::release` promises where it releases
pub record IsReleased (before after : Relayed) : Type 0 where
  -- nothing is held back any more, no request is left, and so none is done
  pub emptied : (after.outputs ≡ []) × (after.done ≡ 0) × (list_of after.moored ≡ [])
  -- no sector is wanted, where there were requests; else the unit and its disk are as they were
  pub wants_nothing : 0 < length before.moored.disk.requests → WantsNothing after.moored
  pub idle : length before.moored.disk.requests ≡ 0 → after.moored ≡ before.moored
  -- the medium failed no more than before
  pub failed : after.failed ≡ before.failed
  -- the unit is as it was: nothing was taken, and nothing was put on the disk
  pub unit : after.moored.unit ≡ before.moored.unit
  -- the medium has as many sectors as before
  pub sectors : after.moored.disk.sectors ≡ before.moored.disk.sectors
  -- and as many of them are known
  pub known : after.moored.disk.known ≡ before.moored.disk.known
  -- no sector of the medium is open; the disk holds what it held, and the journal stands over it as before
  pub stands : StaysOpen before.moored after.moored

-- The caller's places for outputs and for their count, before a release and after it, and its status.
pub record Handing : Type 0 where
  pub places : List EtcsOutput
  pub handed : List EtcsOutput
  pub counted : ℕ
  pub count : ℕ
  pub status : Status

-- the release is refused so: nothing is written, and nothing changes
abbrev pub HandsNothing : Status → Opened → Opened → Handing → Type 0
HandsNothing status before after h =
    (h.status ≡ status) × (h.handed ≡ h.places) × (h.count ≡ h.counted) × (after ≡ before)

-- all that was held back is in the first of the caller's places, the oldest first, and counted
pub record HandsAll (before after : Opened) (h : Handing) : Type 0 where
  pub done : h.status ≡ a_status.Done
  pub outputs : AreHanded before.unit.outputs h.places h.handed
  pub counted : h.count ≡ length before.unit.outputs
  -- the last output that was released, also before this call
  pub last : after.last ≡ last_of before.unit.outputs before.last
  pub released : IsReleased before.unit after.unit

-- a release: NoRoom with fewer than eight places; else each refusal comes exactly for its cause
abbrev pub Releases : Opened → Opened → Handing → Type 0
Releases before after h = IfElse (nat_lt (length h.places) most_pending) (HandsNothing a_status.NoRoom before after h)
    (MatchOption (release_refusal before.unit) (HandsAll before after h) (λ e. HandsNothing (of_release e) before after h))

-- the same of a unit that hasn't failed: RequestsOwed where a sector has to be read first
abbrev pub ReleasesAfterReads : Opened → Opened → Handing → Type 0
ReleasesAfterReads before after h = IfElse (is_some before.unit.moored.disk.wanted && not before.unit.failed)
    (HandsNothing a_status.RequestsOwed before after h) (Releases before after h)

-- how far a unit is, as C sees it, where this is known of its life
abbrev pub state_of : Opened → LifeNow → EtcsState
state_of opened life = record {
  last = description_of opened.last;
  requests = requests_of opened.unit.moored;
  done = opened.unit.done;
  held = length opened.unit.outputs;
  has_failed = if opened.unit.failed then 1 else 0;
  pending = life.pending;
  moment = life.moment;
  estimate = life.estimate;
  uncertainty = life.uncertainty;
}

-- how far a unit is, and what is known of its life
abbrev pub DescribesState : Opened → EtcsState → Type 0
DescribesState opened state = (life : LifeNow) × DescribesLife opened.unit.moored.unit.life life × (state ≡ state_of opened life)
