-- What handing in a sector of a medium that isn't copied leaves (this project's profile).
-- Sectors have 512 bytes and are numbered from 0.
use Rattle.std.specs.Prelude.{◌≡◌, ℕ, ◌==◌, ◌&&◌, nat_lt, Bool, true, List, length, is_some}
use Rattle.disk.specs.State.{contents_of}
use Rattle.request_disk.specs.Requesting.{request_state, knows, with_sector}
use Rattle.relayed_unit.specs.Relayed.{sectors_in}
use Rattle.unit_calls.specs.Handles.{Prepares}
use Rattle.unit_calls.specs.Requests.{IfElse}
use Rattle.unit_calls.specs.Statuses.{is_done}
use Rattle.unit_calls.specs.declared.handle.Opened.{Opened}
use Rattle.unit_calls.specs.declared.status.Status.{Status}
use Rattle.unit_calls.specs.declared.status.Status.TheVariants as a_status

-- whether these are the bytes of a sector that the medium has
abbrev pub is_sector_of : Opened → ℕ → List ℕ → Bool
is_sector_of opened sector bytes = (length bytes == 512) && nat_lt sector (sectors_in opened.unit.moored)

-- what `RelayedUnit::provide` promises where it takes a sector
pub record IsProvided (sector : ℕ) (bytes : List ℕ) (before after : Opened) : Type 0 where
  -- the disk has the sector, and the unit is as it was
  pub exact : (after.unit.moored.unit ≡ before.unit.moored.unit)
      × (after.unit.moored.disk ≡ with_sector sector bytes before.unit.moored.disk)
  -- the sector is known then
  pub known : knows sector after.unit.moored.disk ≡ true
  -- where its bytes are what the medium holds, the journal stands as before
  pub same : bytes ≡ contents_of (request_state before.unit.moored.disk) sector
      → request_state after.unit.moored.disk ≡ request_state before.unit.moored.disk
  -- what is held back stays, and so does what was said of the requests
  pub held : (after.unit.outputs ≡ before.unit.outputs) × (after.unit.done ≡ before.unit.done)
      × (after.unit.failed ≡ before.unit.failed) × (after.last ≡ before.last)

-- a sector is handed in; OutOfRange where these are the bytes of none that the medium has, and then nothing changes
abbrev pub Provides : ℕ → List ℕ → Opened → Opened → Status → Type 0
Provides sector bytes before after status = IfElse (is_sector_of before sector bytes)
    ((status ≡ a_status.Done) × IsProvided sector bytes before after)
    ((status ≡ a_status.OutOfRange) × (after ≡ before))

-- a sector is handed in, and where one was wanted the flush goes on, whose status is reported then
abbrev pub ProvidesOn : ℕ → List ℕ → Opened → Opened → Status → Type 0
ProvidesOn sector bytes before after status = (given : Opened) × (provided : Status) × Provides sector bytes before given provided
    × IfElse (is_some before.unit.moored.disk.wanted && is_done provided) (Prepares given after status) ((status ≡ provided) × (after ≡ given))
