-- What contracts see of a unit that hands out its requests (this project's profile). Requests are counted from the
-- first of the list.
use Rattle.std.specs.Prelude.{◌≡◌, ℕ, ◌+◌, ◌%◌, ◌≤◌, Bool, true, false, not, ◌&&◌, ◌||◌, nat_lt, if◌then◌else◌, List, length, Option, Some, None, option_map, Result, Ok, Err}
use Rattle.arrayvec.specs.ArrayVec.{ArrayVec}
use Rattle.disk.specs.State.{State, contents_of, IsSynced}
use Rattle.disk.specs.declared.record.Call.{Call}
use Rattle.events.specs.declared.input.Event.{Event}
use Rattle.events.specs.declared.input.Input.{Input}
use Rattle.journal.specs.Journals.{IsOpen}
use Rattle.mode_table.specs.declared.statuses.Cold.{Cold}
use Rattle.request_disk.specs.Requests.{ends_in_sync}
use Rattle.request_disk.specs.Requesting.{request_state, knows}
use Rattle.onboard.specs.Answers.{flush_refusal, puts_block, refusal_of}
use Rattle.onboard.specs.Flushes.{releases_in, Flushes}
use Rattle.onboard.specs.Progress.{Progress, progress_of}
use Rattle.onboard.specs.declared.errors.AcceptError.{AcceptError}
use Rattle.unit_start.specs.PowersUp.{Continues}
use Rattle.unit_start.specs.Releases.{Release}
use Rattle.unit_start.specs.UnitState.{PartsState}
use Rattle.unit_start.specs.declared.errors.OpenError.{OpenError}
use Rattle.onboard.specs.declared.errors.FlushError.{FlushError}
use Rattle.onboard.specs.declared.errors.FlushError.TheVariants as a_flush
use Rattle.relayed_unit.specs.declared.errors.PrepareError.{PrepareError}
use Rattle.relayed_unit.specs.declared.errors.PrepareError.TheVariants as a_prepare
use Rattle.relayed_unit.specs.declared.errors.ReleaseError.{ReleaseError}
use Rattle.relayed_unit.specs.declared.errors.ReleaseError.TheVariants as a_release
use Rattle.relayed_unit.specs.declared.moored.Moored.{Moored}
use Rattle.ring.specs.Account.{Account}
use Rattle.ring.specs.Slots.{gate_at, next_is_closed}

-- The unit along with the disk that hands out its requests, the outputs that are held back, how many requests are done, and whether the
-- medium failed.
pub record Relayed : Type 0 where
  pub moored : Moored
  pub outputs : List Release
  pub done : ℕ
  pub failed : Bool

-- ---- the list of requests

abbrev pub list_of : Moored → List Call
list_of moored = moored.disk.requests

-- the bytes that the requests write, one after the other
abbrev pub written_of : Moored → List ℕ
written_of moored = moored.disk.written

-- how many sectors the medium has
abbrev pub sectors_in : Moored → ℕ
sectors_in moored = moored.disk.sectors

-- how many requests the list has
abbrev pub requests_of : Moored → ℕ
requests_of moored = length (list_of moored)

-- all requests are done
abbrev pub AllDone : Relayed → Type 0
AllDone u = requests_of u.moored ≤ u.done

-- ---- what a call leaves

-- what was pending was flushed onto the disk, and these outputs of it are held back
abbrev pub IsFlushed : List Release → Moored → Moored → Type 0
IsFlushed outputs current next = (let answer : Result (ArrayVec Release) FlushError = Ok (record { items = outputs }) in
    Flushes releases_in (request_state current.disk) (request_state next.disk) current.unit next.unit answer)

-- ---- what a power-up leaves

-- it goes on from that disk, which was ready for these lists
abbrev pub Continued : ℕ → List Event → List Event → Cold → State → Moored → Type 0
Continued whole_from durable accepted cold before current = (let answer : Result PartsState OpenError = Ok current.unit in
    Continues whole_from durable accepted cold before (request_state current.disk) answer)

-- ---- the gate that a flush has to know

-- a flush of now puts a block into the slot after the greatest number
abbrev pub flush_puts : Moored → Bool
flush_puts current = puts_block current.unit.journal.failed (length current.unit.life.records) current.unit.journal.newest

-- the sector with the gate of that slot
abbrev pub next_gate : Moored → ℕ
next_gate current = gate_at ((current.unit.journal.newest + 1) % current.unit.journal.slots)

-- a flush needs it, and it isn't known
abbrev pub wants_gate : Moored → Bool
wants_gate current = flush_puts current && not (knows (next_gate current) current.disk)

-- this is whether the gate is closed, where a flush needs it
abbrev pub IsNextGate : Bool → Moored → Type 0
IsNextGate is_shut current = flush_puts current ≡ true
    → is_shut ≡ next_is_closed current.unit.journal.slots current.unit.journal.newest (contents_of (request_state current.disk))

-- no sector is wanted
abbrev pub WantsNothing : Moored → Type 0
WantsNothing current = current.disk.wanted ≡ None

-- no sector of the medium is open; the disk holds what it held, and the journal stands over it as before
abbrev pub StaysOpen : Moored → Moored → Type 0
StaysOpen before after = (let old : State = request_state before.disk in let new : State = request_state after.disk in
    IsSynced old × IsSynced new × ((s : ℕ) → contents_of new s ≡ contents_of old s)
    × ((reported : Account) → IsOpen before.unit.journal reported old → IsOpen after.unit.journal reported new))

-- ---- why calls are refused

-- why an input isn't taken
abbrev pub input_refusal : Relayed → Input → Option AcceptError
input_refusal u input =
    refusal_of (u.failed || u.moored.unit.journal.failed) (length u.moored.unit.life.records) u.moored.unit.life.moment input

-- what refusals go by, of all lives
abbrev pub progress_in : Moored → Progress
progress_in moored = progress_of moored.unit.journal moored.unit.life

-- what a flush onto the disk is refused with
abbrev pub refused_as : FlushError → PrepareError
refused_as a_flush.Failed = a_prepare.Failed
refused_as a_flush.WornOut = a_prepare.WornOut
refused_as a_flush.DeviceFault = a_prepare.Failed

-- why a flush isn't prepared, before the disk is written: the first of these that holds, and a flush that needs a gate is
-- refused for nothing else
abbrev pub prepare_refusal : Bool → Moored → Option PrepareError
prepare_refusal failed current =
    if failed then Some a_prepare.Failed
    else if nat_lt 0 (length current.disk.requests) then Some a_prepare.RequestsOwed
    else if wants_gate current then Some a_prepare.SectorWanted
    else option_map refused_as (flush_refusal current.unit.journal.failed (length current.unit.life.records) current.unit.journal.newest)

-- whether the unit can't go on after this answer
abbrev pub prepare_failed : {T : Type 0} → Result T PrepareError → Bool
prepare_failed (Ok x) = false
prepare_failed (Err a_prepare.Failed) = true
prepare_failed (Err a_prepare.RequestsOwed) = false
prepare_failed (Err a_prepare.WornOut) = false
prepare_failed (Err a_prepare.SectorWanted) = false

-- what a refusal leaves: all as it was, but that the gate is wanted where it isn't known
abbrev pub IsLeftBy : PrepareError → Moored → Moored → Type 0
IsLeftBy a_prepare.Failed before after = after ≡ before
IsLeftBy a_prepare.RequestsOwed before after = after ≡ before
IsLeftBy a_prepare.WornOut before after = after ≡ before
IsLeftBy a_prepare.SectorWanted before after = (after.unit ≡ before.unit)
    × (after.disk ≡ record before.disk { wanted = Some (next_gate before) })

-- why nothing is released: the first of these that holds
abbrev pub release_refusal : Relayed → Option ReleaseError
release_refusal u =
    if u.failed then Some a_release.Failed
    else if nat_lt u.done (requests_of u.moored) then Some a_release.RequestsOwed
    else if ends_in_sync (list_of u.moored) then None
    else Some a_release.Failed

-- ---- what may be reported of the newest event

-- it isn't released yet: it is pending, or its requests are still in the list
abbrev pub is_unreleased : Moored → Bool
is_unreleased current = nat_lt 0 (length current.disk.requests) || nat_lt 0 (length current.unit.life.records)
