-- The numbers and the names by which refusals are reported (this project's profile).
use Rattle.std.specs.Prelude.{ℕ, List, codes}
use Rattle.onboard.specs.declared.errors.AcceptError.{AcceptError}
use Rattle.onboard.specs.declared.errors.AcceptError.TheVariants as an_accept
use Rattle.onboard.specs.declared.errors.FlushError.{FlushError}
use Rattle.onboard.specs.declared.errors.FlushError.TheVariants as a_flush

abbrev pub accept_number : AcceptError → ℕ
accept_number an_accept.PendingFull = 10
accept_number an_accept.ClockBack = 11
accept_number an_accept.NoMemory = 12
accept_number an_accept.Failed = 13

abbrev pub accept_name : AcceptError → List ℕ
accept_name an_accept.PendingFull = codes "PendingFull"
accept_name an_accept.ClockBack = codes "ClockBack"
accept_name an_accept.NoMemory = codes "NoMemory"
accept_name an_accept.Failed = codes "Failed"

abbrev pub flush_number : FlushError → ℕ
flush_number a_flush.DeviceFault = 20
flush_number a_flush.Failed = 21
flush_number a_flush.WornOut = 23

abbrev pub flush_name : FlushError → List ℕ
flush_name a_flush.DeviceFault = codes "DeviceFault"
flush_name a_flush.Failed = codes "Failed"
flush_name a_flush.WornOut = codes "WornOut"
