-- What a file holds, and what a loss of power may leave of it (this project's profile). Its bytes are seen in sectors
-- of 512, numbered from 0, as those of a disk; the last one may have fewer.
use Rattle.std.specs.Prelude.{◌≡◌, ℕ, ◌+◌, ◌-◌, ◌/◌, ◌++◌, Bool, List, length, take, drop, replicate}
use Rattle.disk.specs.State.{State, Platter, Touches, OpenOrSame, SameOpenOutside, sector_of}

-- A file at a moment: its bytes, and the open sectors, which are those written since the last sync that succeeded.
pub record FileMoment : Type 0 where
  pub bytes : List ℕ
  pub is_open : ℕ → Bool

-- All that contracts see of a file: `at k` is the file at moment k, from 0 to `clock`, which is
-- now; `honest` says that it keeps to the model.
pub record FileState : Type 0 where
  pub honest : Bool
  pub clock : ℕ
  pub at : ℕ → FileMoment

-- its bytes now
abbrev pub bytes_of : FileState → List ℕ
bytes_of f = (f.at f.clock).bytes

-- a file as a medium of sectors
abbrev pub medium_of : FileMoment → Platter
medium_of m = record { contents = λ s. sector_of m.bytes s; is_open = m.is_open }

-- a disk of so many sectors over a file
abbrev pub disk_over : ℕ → ℕ → FileState → State
disk_over sectors faults f = record { sectors = sectors; faults = faults; honest = f.honest; clock = f.clock; at = λ k. medium_of (f.at k) }

-- the disk of all its whole sectors
abbrev pub whole_disk : FileState → State
whole_disk f = disk_over (length (bytes_of f) / 512) 0 f

-- bytes with others written over them from an offset on
abbrev pub overwritten : List ℕ → ℕ → List ℕ → List ℕ
overwritten bytes offset with = take offset bytes ++ with ++ drop (offset + length with) bytes

-- bytes that are cut off at a size, or go on to it with zeros
abbrev pub resized : List ℕ → ℕ → List ℕ
resized bytes size = take size bytes ++ replicate (size - length bytes) 0

-- What a write does at most, wherever it stops, where it hands in the sectors from `first` on that so many bytes fill:
-- these may hold any bytes while it lasts, and each is then open, or nothing happened to it. All others stay as they
-- are, and so does the size of the file.
pub record WritesOnly (first bytes : ℕ) (old new : FileState) : Type 0 where
  pub moments : Touches first bytes (whole_disk old) (whole_disk new)
  pub open_or_same : OpenOrSame first bytes (whole_disk old) (whole_disk new)
  pub others_open : SameOpenOutside first bytes (whole_disk old) (whole_disk new)
  pub size : length (bytes_of new) ≡ length (bytes_of old)
