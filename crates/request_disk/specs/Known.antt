-- Sectors that are held with their bytes (this project's profile). Sectors have 512 bytes and are numbered from 0.
use Rattle.std.specs.Prelude.{◌≡◌, ℕ, ◌<◌, ◌≤◌, ◌==◌, ◌∷◌, ◌++◌, [], Bool, if◌then◌else◌, List, length, map, take, drop, position, Option, Some, None, is_some, vec_len, vec_capacity}
use Rattle.disk.specs.State.{sector_of}
use Rattle.disk.specs.declared.record.Call.{Call}
use Rattle.request_disk.specs.Requests.{found_in}
use Rattle.request_disk.specs.declared.known.Known.{Known}
use Rattle.request_disk.specs.declared.known.KnownSectors.TheInside.{Inside}

-- their numbers
abbrev pub numbers_of : List Known → List ℕ
numbers_of known = map (λ k. k.sector) known

-- whether a list has this number
abbrev pub has_number : ℕ → List ℕ → Bool
has_number s numbers = is_some (position (λ number. number == s) numbers)

-- from the one that came first on
abbrev pub in_order : Inside → List Known
in_order known = drop known.oldest known.entries.items ++ take known.oldest known.entries.items

-- there is space for 16, and there are no more; while there are fewer, the first stands first
pub record IsKnown (known : Inside) : Type 0 where
  pub few : vec_len known.entries ≤ 16
  pub space : 16 ≤ vec_capacity known.entries
  pub within : known.oldest < 16
  pub first : vec_len known.entries < 16 → known.oldest ≡ 0

-- with space for one more: where there are 16 the first of them is forgotten
abbrev pub with_space : {X : Type 0} → List X → List X
with_space xs = if length xs == 16 then drop 1 xs else xs

-- with one number more
abbrev pub with_number : ℕ → List ℕ → List ℕ
with_number s numbers = with_space numbers ++ s ∷ []

-- a sector that is held is one of the medium's, and holds the medium's bytes
pub record IsHeld (sectors : ℕ) (medium : List ℕ) (k : Known) : Type 0 where
  pub below : k.sector < sectors
  pub bytes : k.bytes ≡ sector_of medium k.sector

-- the bytes that stand there among those that are written, and where none was written these
abbrev pub reported_or : List ℕ → List ℕ → Option ℕ → List ℕ
reported_or bytes written None = bytes
reported_or bytes written (Some at) = take 512 (drop at written)

-- the sector after these requests
abbrev pub renewed : List ℕ → List Call → Known → Known
renewed written requests k = record k { bytes = reported_or k.bytes written (found_in k.sector requests) }
