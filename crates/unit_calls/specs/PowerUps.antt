-- A unit that was powered up, in whatever way (this project's profile).
use Rattle.std.specs.Prelude.{◌≡◌, ℕ, List, [], false}
use Rattle.disk.specs.State.{State}
use Rattle.disk.specs.Record.{state_of}
use Rattle.events.specs.declared.input.Event.{Event}
use Rattle.mode_table.specs.declared.statuses.Cold.{Cold}
use Rattle.unit_start.specs.Lives.{IsReady}
use Rattle.relayed_unit.specs.Relayed.{Relayed, Continued}

-- a disk of so many sectors on a medium of these bytes, before any call
abbrev pub before_any : List ℕ → ℕ → State
before_any bytes sectors = state_of sectors 0 bytes [] []

-- It was powered up with this cold movement value over a disk that was so.
pub record IsUp (begin : State) (cold : Cold) (u : Relayed) : Type 0 where
  -- nothing is held back, and nothing is done
  pub fresh : (u.outputs ≡ []) × (u.done ≡ 0) × (u.failed ≡ false)
  -- its disk has as many sectors
  pub sectors : u.moored.disk.sectors ≡ begin.sectors
  -- after each number of requests each image is one that a power-up may leave of what the disk held
  pub up : (whole_from : ℕ) (durable accepted : List Event) → IsReady whole_from durable accepted begin
      → Continued whole_from durable accepted cold begin u.moored
