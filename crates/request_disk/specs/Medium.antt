-- What a medium holds after requests (this project's profile). Sectors have 512 bytes and are numbered from 0.
use Rattle.std.specs.Prelude.{ℕ, ◌*◌, ◌++◌, List, take, drop, fold}
use Rattle.disk.specs.declared.record.Call.{Call}
use Rattle.disk.specs.declared.record.Call.TheVariants.{Quiet, Synced, Written, Torn}
use Rattle.disk.specs.declared.record.Span.{Span}

-- the bytes with a request's sectors written: those before them, those that the request writes, and those past them
abbrev pub with_sectors : List ℕ → List ℕ → Span → List ℕ
with_sectors written bytes span =
    take (512 * span.first) bytes
    ++ (take (512 * span.sectors) (drop span.from written) ++ drop (512 * span.sectors) (drop (512 * span.first) bytes))

-- the bytes after one request
abbrev pub carried_next : List ℕ → List ℕ → Call → List ℕ
carried_next written bytes Quiet = bytes
carried_next written bytes Synced = bytes
carried_next written bytes (Written span) = with_sectors written bytes span
carried_next written bytes (Torn span) = bytes

-- the bytes after these requests
abbrev pub carried : List ℕ → List ℕ → List Call → List ℕ
carried written bytes requests = fold (carried_next written) bytes requests
