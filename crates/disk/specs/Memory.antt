-- What contracts see of a disk in memory (this project's profile). Sectors are numbered from 0; space is counted in
-- calls and bytes.
use Rattle.std.specs.Prelude.{◌≡◌, ℕ, ◌+◌, ◌-◌, ◌*◌, ◌%◌, ◌^◌, ◌≤◌, ◌&&◌, ◌++◌, ◌∷◌, [], nat_le, nat_lt, Bool, true, false, if◌then◌else◌, List, length, All, Result, is_err}
use Rattle.disk.specs.State.{State, now, contents_of, IsImage, IsSynced}
use Rattle.disk.specs.Record.{bytes_at, trace_of, state_of, IsWithin}
use Rattle.disk.specs.Plan.{fate_of, fails, takes}
use Rattle.disk.specs.Choice.{settled_sector, IsChoice, HoldsBytes}
use Rattle.disk.specs.declared.DiskFault.{DiskFault}
use Rattle.disk.specs.declared.choice.Choice.{Choice}
use Rattle.disk.specs.declared.plan.Plan.{Plan}
use Rattle.disk.specs.declared.plan.Plan.TheVariants.{Nothing}
use Rattle.disk.specs.declared.plan.Fate.{Fate}
use Rattle.disk.specs.declared.memory.Space.{Space}
use Rattle.disk.specs.declared.record.Call.{Call}

-- What contracts see of a disk in memory: the bytes that it began with, the record of its calls with the bytes that
-- they handed in, its space, what is to go wrong, counted from which call on, and how many calls failed (this project's
-- profile).
pub record Recording : Type 0 where
  pub sectors : ℕ
  pub start : List ℕ
  pub calls : List Call
  pub written : List ℕ
  pub space : Space
  pub plan : Plan
  pub planned_at : ℕ
  pub faults : ℕ

-- What is so of every disk in memory: it began with whole sectors, its calls are of sectors that it has, and it stays
-- within its space.
pub record IsRecording (m : Recording) : Type 0 where
  pub whole : length m.start ≡ 512 * m.sectors
  pub recorded : All (IsWithin m.sectors (length m.written)) m.calls
  pub calls_fit : length m.calls ≤ m.space.calls
  pub bytes_fit : length m.written ≤ m.space.bytes
  pub planned : m.planned_at ≤ length m.calls

-- What contracts see of it as a disk. It is honest, and its moments are its calls: moment k is after k calls (this
-- project's profile).
abbrev pub memory_state : Recording → State
memory_state m = state_of m.sectors m.faults m.start m.written m.calls

-- the bytes that were last handed in for sector s to a write, also to one that failed
abbrev pub handed_of : Recording → ℕ → List ℕ
handed_of m s = bytes_at m.start m.written s (trace_of s m.calls).handed

-- what is to go wrong
abbrev pub plan_of : Recording → Plan
plan_of m = m.plan

-- the calls counted since the plan was made
abbrev pub calls_since : Recording → ℕ
calls_since m = length m.calls - m.planned_at

-- all its space, used or not
abbrev pub space_of : Recording → Space
space_of m = m.space

-- the bytes of its space for written sectors that are used
abbrev pub bytes_used : Recording → ℕ
bytes_used m = length m.written

-- there is space for a call that hands in so many bytes
abbrev pub has_space_for : ℕ → Recording → Bool
has_space_for bytes m = nat_lt (length m.calls) m.space.calls && nat_le bytes (m.space.bytes - length m.written)

-- what the plan makes of the next call
abbrev pub fate_now : Recording → Fate
fate_now m = fate_of m.plan (length m.calls - m.planned_at)

-- A disk on which no call was made and nothing is planned: no sector is open, and no call has failed (this
-- project's profile).
pub record IsFresh (m : Recording) : Type 0 where
  pub clock : (memory_state m).clock ≡ 0
  pub faults : (memory_state m).faults ≡ 0
  pub synced : IsSynced (memory_state m)
  pub plan : plan_of m ≡ Nothing
  pub since : calls_since m ≡ 0
  pub used : bytes_used m ≡ 0

-- What a call does that hands in so many bytes. It answers DiskFault exactly beyond the space and where the plan says
-- so. Beyond the space it changes nothing else than the count of failures, and the clock stands still; else the clock
-- goes up by one. The plan and the space stay.
pub record HasRun {T : Type 0} (bytes : ℕ) (result : Result T DiskFault) (old new : Recording) : Type 0 where
  pub answer : is_err result ≡ (if has_space_for bytes old then fails (fate_now old) else true)
  pub clock : (memory_state new).clock ≡ (memory_state old).clock + (if has_space_for bytes old then 1 else 0)
  pub since : calls_since new ≡ calls_since old + (if has_space_for bytes old then 1 else 0)
  pub used : bytes_used new ≡ bytes_used old + (if has_space_for bytes old then takes (fate_now old) bytes else 0)
  pub plan : plan_of new ≡ plan_of old
  pub space : space_of new ≡ space_of old
  pub beyond : has_space_for bytes old ≡ false → new ≡ record old { faults = (old.faults + 1) % 2 ^ 64 }

-- the same was last handed in for each sector
abbrev pub SameHanded : Recording → Recording → Type 0
SameHanded old new = (s : ℕ) → handed_of new s ≡ handed_of old s

-- each sector holds what it held
abbrev pub SameContents : Recording → Recording → Type 0
SameContents old new = (s : ℕ) → contents_of (memory_state new) s ≡ contents_of (memory_state old) s

-- every list of choices settles the disk to an image of it, if the bytes that are given are whole sectors (this
-- project's profile)
abbrev pub SettlesToImages : Recording → Type 0
SettlesToImages m = (choices : List Choice) → All IsChoice choices → IsImage (now (memory_state m)) (settled_sector (memory_state m) (handed_of m) choices)

-- each image of the disk that is made of bytes is what some list of choices settles it to
abbrev pub ReachesEachImage : Recording → Type 0
ReachesEachImage m = (c : ℕ → List ℕ) → IsImage (now (memory_state m)) c → HoldsBytes c
    → (choices : List Choice) × All IsChoice choices × ((s : ℕ) → settled_sector (memory_state m) (handed_of m) choices s ≡ c s)

-- A call was added to the record, with the bytes that it hands in, and all else is as it was (this project's
-- profile).
pub record IsNoted (call : Call) (bytes : List ℕ) (old new : Recording) : Type 0 where
  pub calls : new.calls ≡ old.calls ++ call ∷ []
  pub written : new.written ≡ old.written ++ bytes
  pub start : new.start ≡ old.start
  pub sectors : new.sectors ≡ old.sectors
  pub space : new.space ≡ old.space
  pub plan : new.plan ≡ old.plan
  pub planned_at : new.planned_at ≡ old.planned_at
  pub faults : new.faults ≡ old.faults
