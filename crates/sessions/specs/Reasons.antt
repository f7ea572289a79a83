-- The numbers and names of refusals and of the ends of lives, and the statuses that go with them (this project's
-- profile).
use Rattle.std.specs.Prelude.{ℕ, List, [], ◌++◌, Result, Ok, Err, codes, decimal}
use Rattle.text_output.specs.declared.status.Status.{Status}
use Rattle.text_output.specs.declared.status.Status.TheVariants.{Done, Refused, Device}
use Rattle.journal.specs.Numbers.{format_number, format_name}
use Rattle.journal.specs.declared.errors.FormatError.{FormatError}
use Rattle.journal.specs.declared.errors.FormatError.TheVariants as a_format
use Rattle.unit_start.specs.Numbers.{open_number, open_name}
use Rattle.onboard.specs.Numbers.{accept_number, accept_name, flush_number, flush_name}
use Rattle.unit_start.specs.declared.errors.OpenError.{OpenError}
use Rattle.unit_start.specs.declared.errors.OpenError.TheVariants as an_open
use Rattle.whole_lives.specs.declared.errors.LiveError.{LiveError}
use Rattle.whole_lives.specs.declared.errors.LiveError.TheVariants as a_live
use Rattle.onboard.specs.declared.errors.AcceptError.{AcceptError}
use Rattle.onboard.specs.declared.errors.AcceptError.TheVariants as an_accept
use Rattle.onboard.specs.declared.errors.FlushError.{FlushError}
use Rattle.onboard.specs.declared.errors.FlushError.TheVariants as a_flush
use Rattle.reader.specs.Numbers.{listing_number, listing_name}
use Rattle.reader.specs.declared.errors.ListingError.{ListingError}
use Rattle.reader.specs.declared.errors.ListingError.TheVariants as a_listing
use Rattle.simulator.specs.FaultNumbers.{fault_number, fault_name}
use Rattle.simulator.specs.declared.fault.ScenarioFault.{ScenarioFault}

-- ---- why a life stopped: a number and a name

abbrev pub open_reason : OpenError → ℕ × List ℕ
open_reason error = (open_number error, open_name error)

abbrev pub accept_reason : AcceptError → ℕ × List ℕ
accept_reason error = (accept_number error, accept_name error)

abbrev pub flush_reason : FlushError → ℕ × List ℕ
flush_reason error = (flush_number error, flush_name error)

abbrev pub stop_reason : LiveError → ℕ × List ℕ
stop_reason (a_live.Open e) = open_reason e
stop_reason (a_live.Accept k e) = accept_reason e
stop_reason (a_live.Flush k e) = flush_reason e
stop_reason (a_live.NoMemory k) = accept_reason an_accept.NoMemory

-- a label, a number and a name, in a line
abbrev pub line_with : List ℕ → ℕ × List ℕ → List ℕ
line_with label reason = label ++ codes " " ++ decimal reason.0 ++ codes " " ++ reason.1 ++ codes "\n"

-- the last line of a life that stopped; one that came to its end has none
abbrev pub ending_of : {T : Type 0} → Result T LiveError → List ℕ
ending_of (Ok x) = []
ending_of (Err e) = line_with (codes "stopped") (stop_reason e)

-- the status of a device where the device failed, else that of a refusal
abbrev pub stop_status : LiveError → Status
stop_status (a_live.Open an_open.DeviceFault) = Device
stop_status (a_live.Open an_open.NotFormatted) = Refused
stop_status (a_live.Open an_open.Damaged) = Refused
stop_status (a_live.Open an_open.NoMemory) = Refused
stop_status (a_live.Open an_open.WornOut) = Refused
stop_status (a_live.Accept k e) = Refused
stop_status (a_live.Flush k a_flush.DeviceFault) = Device
stop_status (a_live.Flush k a_flush.Failed) = Refused
stop_status (a_live.Flush k a_flush.WornOut) = Refused
stop_status (a_live.NoMemory k) = Refused

abbrev pub status_of : {T : Type 0} → Result T LiveError → Status
status_of (Ok x) = Done
status_of (Err e) = stop_status e

-- ---- why something was refused

abbrev pub format_reason : FormatError → ℕ × List ℕ
format_reason error = (format_number error, format_name error)

abbrev pub format_status : FormatError → Status
format_status a_format.DeviceFault = Device
format_status a_format.BadSlots = Refused
format_status a_format.WrongSize = Refused

abbrev pub listing_reason : ListingError → ℕ × List ℕ
listing_reason error = (listing_number error, listing_name error)

abbrev pub listing_status : ListingError → Status
listing_status a_listing.DeviceFault = Device
listing_status a_listing.NotFormatted = Refused
listing_status a_listing.Damaged = Refused
listing_status a_listing.Write = Refused
listing_status a_listing.NoMemory = Refused

abbrev pub fault_reason : ScenarioFault → ℕ × List ℕ
fault_reason error = (fault_number error, fault_name error)

abbrev pub refusal_of : ℕ × List ℕ → List ℕ
refusal_of reason = line_with (codes "refused") reason
