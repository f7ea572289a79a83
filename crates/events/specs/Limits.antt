-- The limits of what comes in and of what is kept (this project's profile). Distances are centimetres.
use Rattle.std.specs.Prelude.{ℕ, ◌*◌, ◌≤◌, ℤ, List, length}
use Rattle.std.specs.Int.RustNames.{unsigned_abs}
use Rattle.units.specs.Limits.{farthest}
use Rattle.packets.specs.Limits.{telegram_bytes}

-- the bytes of a telegram: at least one, and at most what a balise sends
abbrev pub AreOfATelegram : List ℕ → Type 0
AreOfATelegram bytes = (1 ≤ length bytes) × (length bytes ≤ telegram_bytes)

-- an estimated place
abbrev pub IsEstimate : ℤ → Type 0
IsEstimate z = unsigned_abs z ≤ farthest

-- how far one place of a life lies from another
abbrev pub IsOffset : ℤ → Type 0
IsOffset z = unsigned_abs z ≤ 2 * farthest

-- how many events are pending at most
abbrev pub most_pending : ℕ
most_pending = 8
