-- What the calls do to a power-up that is under way (this project's profile).
-- Sectors have 512 bytes and are numbered from 0.
use Rattle.std.specs.Prelude.{◌≡◌, ℕ, ◌<◌, ◌==◌, ◌&&◌, nat_lt, true, List, length, MatchOption}
use Rattle.disk.specs.State.{sector_of}
use Rattle.request_disk.specs.Requesting.{knows, with_sector}
use Rattle.relayed_unit.specs.Openings.{Opening, still_needed, IsGoing, IsWanted}
use Rattle.unit_calls.specs.Requests.{IfElse, read_of}
use Rattle.unit_calls.specs.declared.call_values.EtcsRequest.{EtcsRequest}
use Rattle.unit_calls.specs.declared.status.Status.{Status}
use Rattle.unit_calls.specs.declared.status.Status.TheVariants as a_status

-- to read the sector that it wants is reported; NoSuchRequest where it wants none, and then nothing is written
abbrev pub DescribesRead : Opening → EtcsRequest → EtcsRequest → Status → Type 0
DescribesRead opening old new status = MatchOption opening.disk.wanted
    ((status ≡ a_status.NoSuchRequest) × (new ≡ old)) (λ sector. (status ≡ a_status.Done) × (new ≡ read_of sector))

-- what `UnitOpening::provide` promises where it takes a sector
pub record IsProvided (sector : ℕ) (bytes : List ℕ) (before after : Opening) : Type 0 where
  -- its disk has the sector, and nothing else changed
  pub exact : after ≡ record before { disk = with_sector sector bytes before.disk }
  -- the sector is known then
  pub known : knows sector after.disk ≡ true
  -- where it is the sector that is wanted, fewer are needed then
  pub nearer : IsWanted before sector → still_needed after < still_needed before
  -- where its bytes are what the medium holds, it is under way over that medium as before
  pub going : (medium : List ℕ) → IsGoing medium before → bytes ≡ sector_of medium sector → IsGoing medium after

-- a sector is handed in; OutOfRange where these are the bytes of none that the medium has, and then nothing changes
abbrev pub Provides : ℕ → List ℕ → Opening → Opening → Status → Type 0
Provides sector bytes before after status = IfElse ((length bytes == 512) && nat_lt sector before.disk.sectors)
    ((status ≡ a_status.Done) × IsProvided sector bytes before after)
    ((status ≡ a_status.OutOfRange) × (after ≡ before))
