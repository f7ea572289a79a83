-- What a medium is asked for (this project's profile). Sectors have 512 bytes and are numbered from 0; requests are in
-- the order of the calls.
use Rattle.std.specs.Prelude.{ℕ, ◌+◌, ◌-◌, ◌*◌, ◌&&◌, nat_le, nat_lt, Bool, true, false, if◌then◌else◌, List, take, drop, fold, Option, Some, None}
use Rattle.disk.specs.State.{sector_of}
use Rattle.disk.specs.declared.record.Call.{Call}
use Rattle.disk.specs.declared.record.Call.TheVariants.{Quiet, Synced, Written, Torn}
use Rattle.disk.specs.declared.record.Span.{Span}

-- what a medium can be asked for: to write some sectors, or to sync
abbrev pub IsRequest : Call → Type 0
IsRequest Quiet = ⊥
IsRequest Synced = Unit {0}
IsRequest (Written span) = Unit {0}
IsRequest (Torn span) = ⊥

-- whether sector s is one of these
abbrev pub has_sector : Span → ℕ → Bool
has_sector span s = nat_le span.first s && nat_lt (s - span.first) span.sectors

-- where the bytes of sector s stand among those that are written, if a request or one before it writes it
abbrev pub found_next : ℕ → Option ℕ → Call → Option ℕ
found_next s at Quiet = at
found_next s at Synced = at
found_next s at (Written span) = if has_sector span s then Some (span.from + 512 * (s - span.first)) else at
found_next s at (Torn span) = at

-- where they stand after these requests
abbrev pub found_in : ℕ → List Call → Option ℕ
found_in s requests = fold (found_next s) None requests

-- the bytes of sector s that stand there, and where none was written those that the medium began with
abbrev pub reported_at : List ℕ → List ℕ → ℕ → Option ℕ → List ℕ
reported_at start written s None = sector_of start s
reported_at start written s (Some at) = take 512 (drop at written)

-- whether a request is a sync
abbrev pub is_sync : Call → Bool
is_sync Quiet = false
is_sync Synced = true
is_sync (Written span) = false
is_sync (Torn span) = false

-- whether the last of these requests is a sync, or there is none
abbrev pub ends_in_sync : List Call → Bool
ends_in_sync requests = fold (λ before request. is_sync request) true requests
