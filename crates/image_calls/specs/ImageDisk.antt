-- A disk over bytes that nobody can write (this project's profile). Sectors have 512 bytes and are numbered from 0.
use Rattle.std.specs.Prelude.{ℕ, zero, suc, ◌/◌, ◌==◌, Bool, true, false, List, length, Option, Some, None}
use Rattle.disk.specs.State.{State, Platter, sector_of}

-- The bytes, the first sector of the first write that was refused, and how many calls were refused.
pub record Imaged : Type 0 where
  pub bytes : List ℕ
  pub refused : Option ℕ
  pub faults : ℕ

-- how many whole sectors bytes have
abbrev pub sectors_in : List ℕ → ℕ
sectors_in bytes = length bytes / 512

-- the bytes sector by sector
abbrev pub image_of : List ℕ → ℕ → List ℕ
image_of bytes s = sector_of bytes s

-- before a write was refused no call was
abbrev pub faults_of : Option ℕ → ℕ → ℕ
faults_of None faults = 0
faults_of (Some first) faults = faults

-- A write that is refused opens its first sector, as if it had begun: so a disk that opens none refused none.
abbrev pub is_opened : Option ℕ → ℕ → Bool
is_opened None s = false
is_opened (Some first) s = s == first

-- moment 0 is before the first write that was refused, moment 1 after it
abbrev pub open_at : Option ℕ → ℕ → ℕ → Bool
open_at refused zero s = false
open_at refused (suc k) s = is_opened refused s

abbrev pub platter_at : List ℕ → Option ℕ → ℕ → Platter
platter_at bytes refused k = record { contents = λ s. sector_of bytes s; is_open = λ s. open_at refused k s }

abbrev pub clock_of : Option ℕ → ℕ
clock_of None = 0
clock_of (Some first) = 1

-- what contracts see of it as a disk
abbrev pub imaged_state : Imaged → State
imaged_state m = record {
  sectors = sectors_in m.bytes;
  faults = faults_of m.refused m.faults;
  honest = true;
  clock = clock_of m.refused;
  at = λ k. platter_at m.bytes m.refused k;
}
