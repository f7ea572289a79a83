-- A power-up that is under way (this project's profile). Sectors have 512 bytes and are
-- numbered from 0.
use Rattle.std.specs.Prelude.{◌≡◌, ℕ, ◌+◌, ◌-◌, ◌/◌, ◌<◌, ◌≤◌, true, false, List, length, Option, Some, None, IfSome}
use Rattle.blocks.specs.FirstSector.{sectors_of}
use Rattle.disk.specs.State.{State, contents_of, Touches, IsSynced}
use Rattle.journal.specs.UnderWay.{IsUnderWay}
use Rattle.mode_table.specs.declared.statuses.Cold.{Cold}
use Rattle.request_disk.specs.Handed.{is_one_of, handed_last}
use Rattle.request_disk.specs.Requesting.{Requesting, nothing_of, request_state, request_reserve, knows}
use Rattle.ring.specs.ScanState.{ScanState}
use Rattle.relayed_unit.specs.Needs.{needed, needed_later}

-- The disk that hands out its requests, what was found of the slots (None before the first sector was read), and the
-- word on movements without power that was handed in.
pub record Opening : Type 0 where
  pub disk : Requesting
  pub scan : Option ScanState
  pub cold : Cold

-- one that begins, on a medium of these bytes
abbrev pub initial : List ℕ → ℕ → Cold → Opening
initial medium sectors cold = record { disk = nothing_of medium sectors; scan = None; cold = cold }

-- a disk on a medium of these bytes and so many sectors, before any call
abbrev pub medium_state : List ℕ → ℕ → State
medium_state medium sectors = request_state (nothing_of medium sectors)

-- a disk of so many sectors has the slots that were found
abbrev pub IsSized : ℕ → Option ScanState → Type 0
IsSized sectors scan = IfSome scan (λ started. sectors ≡ sectors_of started.slots)

-- so many slots were looked at
pub record IsLooked (slots : ℕ) (scan : ScanState) : Type 0 where
  pub looked : scan.next ≡ slots
  pub order : scan.next ≤ scan.slots

-- There is space for what is to come: a power-up takes ten units, and the sync before it one.
abbrev pub HasUnits : Option ScanState → ℕ → Type 0
HasUnits None units = 11 < units
HasUnits (Some scan) units = 10 < units

-- it can go on on this disk, from what was found of the slots
pub record CanGoOn (disk : Requesting) (scan : Option ScanState) (slots : ℕ) : Type 0 where
  pub size : IsSized disk.sectors scan
  pub looked : IfSome scan (IsLooked slots)
  pub units : HasUnits scan (request_reserve disk)

-- what was found of the slots goes on from there: it is of the same slots, and of no fewer of them, and where no slot
-- more was looked at it is the same
abbrev pub IsFurther : Option ScanState → Option ScanState → Type 0
IsFurther None new = Unit {0}
IsFurther (Some old) None = ⊥
IsFurther (Some old) (Some new) = (new.slots ≡ old.slots) × (old.next ≤ new.next) × (new.next ≡ old.next → new ≡ old)

-- what was found of the slots so far is what this image has
abbrev pub IsFoundOf : ℕ → (ℕ → List ℕ) → Option ScanState → Type 0
IsFoundOf sectors image None = Unit {0}
IsFoundOf sectors image (Some scan) = IsUnderWay sectors image scan

-- It is under way over a medium of these bytes: since it began the medium was settled at most, and nothing on it
-- changed; what was found so far is what the medium has.
pub record IsGoing (medium : List ℕ) (o : Opening) : Type 0 where
  pub settled : Touches 0 0 (medium_state medium o.disk.sectors) (request_state o.disk)
  pub synced : IsSynced (request_state o.disk)
  pub found : IsFoundOf o.disk.sectors (contents_of (medium_state medium o.disk.sectors)) o.scan

-- it wants this sector: one of the next step, that the medium has, and that isn't known
pub record IsWanted (o : Opening) (s : ℕ) : Type 0 where
  pub reported : o.disk.wanted ≡ Some s
  pub needed : is_one_of (needed o.scan) s ≡ true
  pub below : s < o.disk.sectors
  pub unknown : knows s o.disk ≡ false

-- how many slots a medium of so many sectors has
abbrev pub slots_in : ℕ → ℕ
slots_in sectors = (sectors - 1) / 6

-- How many sectors it wants at most, until it is open or refused: those of the next step that weren't handed in last,
-- and those of the steps after it.
abbrev pub still_needed : Opening → ℕ
still_needed o = (length (needed o.scan) - handed_last (needed o.scan) o.disk.known) + needed_later (slots_in o.disk.sectors) o.scan
