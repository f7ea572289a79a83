-- What the record of a disk in memory says of each sector (this project's profile). Offsets are bytes, sectors are
-- numbered from 0.
use Rattle.std.specs.Prelude.{ℕ, ◌+◌, ◌-◌, ◌*◌, ◌≤◌, ◌&&◌, nat_le, nat_lt, true, false, if◌then◌else◌, List, length, take, drop, fold, Option, Some, None}
use Rattle.disk.specs.State.{State, Platter, sector_of}
use Rattle.disk.specs.declared.record.Call.{Call}
use Rattle.disk.specs.declared.record.Call.TheVariants.{Quiet, Synced, Written, Torn}
use Rattle.disk.specs.declared.record.Span.{Span}
use Rattle.disk.specs.declared.record.Place.{Place}
use Rattle.disk.specs.declared.record.Place.TheVariants.{Start, Record}
use Rattle.disk.specs.declared.record.Trace.{Trace}

-- the bytes of sector s that stand at this place
abbrev pub bytes_at : List ℕ → List ℕ → ℕ → Place → List ℕ
bytes_at start written s Start = sector_of start s
bytes_at start written s (Record at) = take 512 (drop at written)

-- where the bytes of sector s stand, if it is one of these
abbrev pub place_in : Span → ℕ → Option Place
place_in span s = if nat_le span.first s && nat_lt (s - span.first) span.sectors then Some (Record (span.from + 512 * (s - span.first))) else None

-- what is reported of a sector after a write that succeeded, where it is one of those written
abbrev pub trace_written : Trace → Option Place → Trace
trace_written t None = t
trace_written t (Some place) = record { last = place; handed = place; synced = t.synced; is_open = true }

-- what is reported of a sector after a write that failed, where it is one of those written
abbrev pub trace_torn : Trace → Option Place → Trace
trace_torn t None = t
trace_torn t (Some place) = record { last = t.last; handed = place; synced = t.synced; is_open = true }

-- what is reported of sector s after one more call
abbrev pub trace_next : ℕ → Trace → Call → Trace
trace_next s t Quiet = t
trace_next s t Synced = record { last = t.last; handed = t.handed; synced = t.last; is_open = false }
trace_next s t (Written span) = trace_written t (place_in span s)
trace_next s t (Torn span) = trace_torn t (place_in span s)

-- what is reported of a sector before the first call
abbrev pub trace_start : Trace
trace_start = record { last = Start; handed = Start; synced = Start; is_open = false }

-- what these calls say about sector s
abbrev pub trace_of : ℕ → List Call → Trace
trace_of s calls = fold (trace_next s) trace_start calls

-- what a write was handed, no sector where the call is none
abbrev pub span_of : Call → Span
span_of Quiet = record { first = 0; sectors = 0; from = 0 }
span_of Synced = record { first = 0; sectors = 0; from = 0 }
span_of (Written span) = span
span_of (Torn span) = span

-- the call's sectors are sectors of the disk, and its bytes are among the written ones
pub record IsWithin (sectors written : ℕ) (call : Call) : Type 0 where
  pub below : (span_of call).first + (span_of call).sectors ≤ sectors
  pub bytes : (span_of call).from + 512 * (span_of call).sectors ≤ written

-- a whole sector stands at this place
abbrev pub IsPlaced : ℕ → Place → Type 0
IsPlaced written Start = Unit {0}
IsPlaced written (Record at) = at + 512 ≤ written

-- whole sectors stand at each place that is reported
pub record AllPlaced (written : ℕ) (t : Trace) : Type 0 where
  pub last : IsPlaced written t.last
  pub handed : IsPlaced written t.handed
  pub synced : IsPlaced written t.synced

-- the medium after these calls
abbrev pub platter_of : List ℕ → List ℕ → List Call → Platter
platter_of start written calls = record { contents = λ s. bytes_at start written s (trace_of s calls).last; is_open = λ s. (trace_of s calls).is_open }

-- what contracts see of a disk with this record: the moments are the calls
abbrev pub state_of : ℕ → ℕ → List ℕ → List ℕ → List Call → State
state_of sectors faults start written calls = record { sectors = sectors; faults = faults; honest = true; clock = length calls; at = λ k. platter_of start written (take k calls) }
