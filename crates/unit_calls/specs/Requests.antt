-- What C gets of a request (this project's profile). Requests are counted from the first of the list.
use Rattle.std.specs.Prelude.{◌≡◌, ℕ, ◌+◌, ◌*◌, ◌<◌, ◌≤◌, nat_lt, Bool, true, false, List, [], ◌∷◌, ◌++◌, length, take, drop, Option, Some, None, MatchOption}
use Rattle.disk.specs.Record.{IsWithin}
use Rattle.disk.specs.declared.record.Call.{Call}
use Rattle.disk.specs.declared.record.Call.TheVariants.{Quiet, Synced, Written, Torn}
use Rattle.relayed_unit.specs.Relayed.{list_of, written_of, sectors_in}
use Rattle.unit_calls.specs.declared.handle.Opened.{Opened}
use Rattle.unit_calls.specs.declared.status.Status.{Status}
use Rattle.unit_calls.specs.declared.status.Status.TheVariants as a_status
use Rattle.unit_calls.specs.declared.call_values.EtcsRequest.{EtcsRequest}

-- the first where this is so, else the second
abbrev pub IfElse : Bool → Type 0 → Type 0 → Type 0
IfElse true So Else = So
IfElse false So Else = Else

-- The request and the bytes that the caller has space for, before a call and after it, and its status.
pub record Description : Type 0 where
  pub request : EtcsRequest
  pub reported : EtcsRequest
  pub caller_buffer : List ℕ
  pub bytes : List ℕ
  pub status : Status

-- the call is refused so, and writes nothing
abbrev pub Refuses : Status → Description → Type 0
Refuses status t = (t.status ≡ status) × (t.reported ≡ t.request) × (t.bytes ≡ t.caller_buffer)

-- so many sectors from this one on are to be written with these bytes, for which the caller has space
abbrev pub Writes : ℕ → ℕ → List ℕ → Description → Type 0
Writes sector sectors content t =
    IfElse (nat_lt (length t.caller_buffer) (length content)) (Refuses a_status.NoRoom t)
    ((t.status ≡ a_status.Done) × (t.reported ≡ record { sector = sector; sectors = sectors; kind = 1 })
    × (t.bytes ≡ content ++ drop (length content) t.caller_buffer))

-- a sync is to be done
abbrev pub Syncs : Description → Type 0
Syncs t = (t.status ≡ a_status.Done) × (t.reported ≡ record { sector = 0; sectors = 0; kind = 2 }) × (t.bytes ≡ t.caller_buffer)

-- a sector is to be read
abbrev pub read_of : ℕ → EtcsRequest
read_of sector = record { sector = sector; sectors = 1; kind = 3 }

-- this sector is to be read
abbrev pub Reads : ℕ → Description → Type 0
Reads sector t = (t.status ≡ a_status.Done) × (t.reported ≡ read_of sector) × (t.bytes ≡ t.caller_buffer)

-- the request at this place of a list; None after the last one
abbrev pub IsAt : ℕ → List Call → Option Call → Type 0
IsAt index requests None = length requests ≤ index
IsAt index requests (Some request) = (index < length requests) × (take (index + 1) requests ≡ take index requests ++ request ∷ [])

-- what C gets of it, where it writes some of these bytes
abbrev pub IsReportedAs : List ℕ → Option Call → Description → Type 0
IsReportedAs written None t = Refuses a_status.NoSuchRequest t
IsReportedAs written (Some Quiet) t = Syncs t
IsReportedAs written (Some Synced) t = Syncs t
IsReportedAs written (Some (Written span)) t = Writes span.first span.sectors (take (512 * span.sectors) (drop span.from written)) t
IsReportedAs written (Some (Torn span)) t = Syncs t

-- a request is of sectors that the medium has, and the bytes that it writes are there
abbrev pub IsWhole : Opened → Option Call → Type 0
IsWhole opened found = (request : Call) → found ≡ Some request
    → IsWithin (sectors_in opened.unit.moored) (length (written_of opened.unit.moored)) request

-- a request of the unit's list is reported, by its place in that
abbrev pub DescribesRequest : ℕ → Opened → Description → Type 0
DescribesRequest index opened t = (found : Option Call) × IsAt index (list_of opened.unit.moored) found × IsWhole opened found
    × IsReportedAs (written_of opened.unit.moored) found t

-- what is to be done next is reported: to read the sector that is wanted, or else the first request of the list that isn't
-- done
abbrev pub DescribesNext : Opened → Description → Type 0
DescribesNext opened t = MatchOption opened.unit.moored.disk.wanted (DescribesRequest opened.unit.done opened t) (λ sector. Reads sector t)
