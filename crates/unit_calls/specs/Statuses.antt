-- What calls answer, and its numbers (this project's profile).
use Rattle.std.specs.Prelude.{ℕ, ◌==◌, Bool, Result, Ok, Err}
use Rattle.unit_start.specs.declared.errors.OpenError.{OpenError}
use Rattle.unit_start.specs.declared.errors.OpenError.TheVariants as an_open
use Rattle.onboard.specs.declared.errors.AcceptError.{AcceptError}
use Rattle.onboard.specs.declared.errors.AcceptError.TheVariants as an_accept
use Rattle.relayed_unit.specs.declared.errors.PrepareError.{PrepareError}
use Rattle.relayed_unit.specs.declared.errors.PrepareError.TheVariants as a_prepare
use Rattle.relayed_unit.specs.declared.errors.ReleaseError.{ReleaseError}
use Rattle.relayed_unit.specs.declared.errors.ReleaseError.TheVariants as a_release
use Rattle.unit_calls.specs.declared.status.Status.{Status}
use Rattle.unit_calls.specs.declared.status.Status.TheVariants as a_status

abbrev pub status_number : Status → ℕ
status_number a_status.Done = 0
status_number a_status.OpenDeviceFault = 1
status_number a_status.NotFormatted = 2
status_number a_status.Damaged = 3
status_number a_status.OpenNoMemory = 4
status_number a_status.OpenWornOut = 6
status_number a_status.PendingFull = 10
status_number a_status.ClockBack = 11
status_number a_status.NoMemory = 12
status_number a_status.InputFailed = 13
status_number a_status.Failed = 21
status_number a_status.RequestsOwed = 22
status_number a_status.WornOut = 23
status_number a_status.BadSlots = 41
status_number a_status.NotReleased = 247
status_number a_status.NoSuchRequest = 249
status_number a_status.NotOpen = 250
status_number a_status.IsOpen = 251
status_number a_status.NoRoom = 252
status_number a_status.OtherAbi = 254
status_number a_status.OutOfRange = 255

-- whether it was done
abbrev pub is_done : Status → Bool
is_done status = status_number status == 0

abbrev pub of_open : OpenError → Status
of_open an_open.DeviceFault = a_status.OpenDeviceFault
of_open an_open.NotFormatted = a_status.NotFormatted
of_open an_open.Damaged = a_status.Damaged
of_open an_open.NoMemory = a_status.OpenNoMemory
of_open an_open.WornOut = a_status.OpenWornOut

abbrev pub of_accept : {T : Type 0} → Result T AcceptError → Status
of_accept (Ok x) = a_status.Done
of_accept (Err an_accept.Failed) = a_status.InputFailed
of_accept (Err an_accept.PendingFull) = a_status.PendingFull
of_accept (Err an_accept.ClockBack) = a_status.ClockBack
of_accept (Err an_accept.NoMemory) = a_status.NoMemory

-- Done also where a sector has to be read first, which is the next request then
abbrev pub of_prepare : {T : Type 0} → Result T PrepareError → Status
of_prepare (Ok x) = a_status.Done
of_prepare (Err a_prepare.Failed) = a_status.Failed
of_prepare (Err a_prepare.RequestsOwed) = a_status.RequestsOwed
of_prepare (Err a_prepare.WornOut) = a_status.WornOut
of_prepare (Err a_prepare.SectorWanted) = a_status.Done

abbrev pub of_release : ReleaseError → Status
of_release a_release.Failed = a_status.Failed
of_release a_release.RequestsOwed = a_status.RequestsOwed
