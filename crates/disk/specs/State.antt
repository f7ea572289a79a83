-- What a disk holds, and what a loss of power may leave of it. This is this project's profile of a storage
-- device: sectors of 512 bytes, numbered from 0.
use Rattle.std.specs.Prelude.{◌≡◌, ◌⊎◌, ℕ, suc, zero, ◌+◌, ◌*◌, ◌%◌, ◌^◌, ◌<◌, ◌≤◌, Bool, true, false, if◌then◌else◌, List, [], length, take, drop, replicate}

-- contents, sector by sector
abbrev pub Image : Type 0
Image = ℕ → List ℕ

-- The medium at a moment: its contents, and the open sectors, which are those written since the last sync that
-- succeeded.
pub record Platter : Type 0 where
  pub contents : ℕ → List ℕ
  pub is_open : ℕ → Bool

-- An image, which is what a cut may leave: contents of whole sectors, each as long as it was, that agree on all sectors
-- that are not open.
pub record IsImage (p : Platter) (c : ℕ → List ℕ) : Type 0 where
  pub shut : (s : ℕ) → p.is_open s ≡ false → c s ≡ p.contents s
  pub whole : (s : ℕ) → length (c s) ≡ length (p.contents s)

-- All that contracts see of a disk: `at k` is the medium at moment k, from 0 to `clock`,
-- which is now; `honest` says that the disk keeps to this model; `faults` counts the calls that answered
-- DiskFault, modulo 2 ^ 64.
pub record State : Type 0 where
  pub sectors : ℕ
  pub faults : ℕ
  pub honest : Bool
  pub clock : ℕ
  pub at : ℕ → Platter

-- the medium now
abbrev pub now : State → Platter
now d = d.at d.clock

-- what the disk holds now, sector by sector
abbrev pub contents_of : State → ℕ → List ℕ
contents_of d = (now d).contents

-- each image of the disk now has P
abbrev pub EachImage : State → ((ℕ → List ℕ) → Type 0) → Type 0
EachImage d P = (c : ℕ → List ℕ) → IsImage (now d) c → P c

-- sector s is none of the sectors from `first` on that so many bytes fill
abbrev pub Outside : ℕ → ℕ → ℕ → Type 0
Outside first bytes s = (s < first) ⊎ (512 * first + bytes ≤ 512 * s)

-- Outside these sectors the contents are the same, and what was not open is not open; each sector stays whole (this
-- project's profile).
pub record SameOutside (first bytes : ℕ) (old new : Platter) : Type 0 where
  pub contents : (s : ℕ) → Outside first bytes s → new.contents s ≡ old.contents s
  pub closed : (s : ℕ) → Outside first bytes s → old.is_open s ≡ false → new.is_open s ≡ false
  pub whole : (s : ℕ) → length (new.contents s) ≡ length (old.contents s)

-- The clock is not turned back, earlier moments stay as they were, and at each moment from old to new the medium
-- is as it was when the call began, but for these sectors.
pub record Touches (first bytes : ℕ) (old new : State) : Type 0 where
  pub later : old.clock ≤ new.clock
  pub kept : (k : ℕ) → k ≤ old.clock → new.at k ≡ old.at k
  pub since : (k : ℕ) → old.clock ≤ k → k ≤ new.clock → SameOutside first bytes (now old) (new.at k)

-- What no call changes, of any disk, and the count of failures: it goes up by one, modulo 2 ^ 64, exactly where the
-- device failed.
pub record Counted (failed : Bool) (old new : State) : Type 0 where
  pub sectors : new.sectors ≡ old.sectors
  pub honest : new.honest ≡ old.honest
  pub faults : new.faults ≡ (if failed then (old.faults + 1) % 2 ^ 64 else old.faults)

-- so many bytes from sector `first` on are one or more whole sectors below the end
pub record AreSectors (first bytes sectors : ℕ) : Type 0 where
  pub whole : bytes % 512 ≡ 0
  pub some : 0 < bytes
  pub within : 512 * first + bytes ≤ 512 * sectors

-- the i-th sector of some bytes, empty past their end
abbrev pub sector_of : List ℕ → ℕ → List ℕ
sector_of bytes i = take 512 (drop (512 * i) bytes)

-- the sectors from `first` on hold these bytes
abbrev pub Holds : (ℕ → List ℕ) → ℕ → List ℕ → Type 0
Holds contents first bytes = (i : ℕ) → 512 * i < length bytes → contents (first + i) ≡ sector_of bytes i

-- the sectors from `first` on that so many bytes fill are open
abbrev pub AreOpen : State → ℕ → ℕ → Type 0
AreOpen d first bytes = (i : ℕ) → 512 * i < bytes → (now d).is_open (first + i) ≡ true

-- outside these sectors the same ones are open
abbrev pub SameOpenOutside : ℕ → ℕ → State → State → Type 0
SameOpenOutside first bytes old new = (s : ℕ) → Outside first bytes s → (now new).is_open s ≡ (now old).is_open s

-- each of the sectors from `first` on that so many bytes fill is open, or nothing happened to it (this project's
-- profile)
abbrev pub OpenOrSame : ℕ → ℕ → State → State → Type 0
OpenOrSame first bytes old new = (i : ℕ) → 512 * i < bytes
    → ((now new).is_open (first + i) ≡ true) ⊎ (((now new).is_open (first + i) ≡ (now old).is_open (first + i)) × (contents_of new (first + i) ≡ contents_of old (first + i)))

-- the same sectors are open
abbrev pub SameOpen : State → State → Type 0
SameOpen old new = (s : ℕ) → (now new).is_open s ≡ (now old).is_open s

-- no sector is open, so that there is one image
abbrev pub IsSynced : State → Type 0
IsSynced d = (s : ℕ) → (now d).is_open s ≡ false

-- At each moment from old to new every image has P: wherever power is lost in between, what is left has it (this
-- project's profile).
pub record AtEachMoment (old new : State) (P : (ℕ → List ℕ) → Type 0) : Type 0 where
  pub later : old.clock ≤ new.clock
  pub kept : (k : ℕ) → k ≤ old.clock → new.at k ≡ old.at k
  pub each : (k : ℕ) → old.clock ≤ k → k ≤ new.clock → (c : ℕ → List ℕ) → IsImage (new.at k) c → P c

-- all sectors of a disk of so many hold zeros, and there are no others
pub record HoldsZeros (sectors : ℕ) (contents : ℕ → List ℕ) : Type 0 where
  pub zeros : (s : ℕ) → s < sectors → contents s ≡ replicate 512 0
  pub others : (s : ℕ) → sectors ≤ s → contents s ≡ []

-- the contents are the same but for these sectors, and each sector is whole
pub record SameBut (first bytes : ℕ) (old new : ℕ → List ℕ) : Type 0 where
  pub same : (s : ℕ) → Outside first bytes s → new s ≡ old s
  pub whole : (s : ℕ) → length (new s) ≡ length (old s)

-- what sector s held when it was last not open, at moment k or before
abbrev pub settled_at : (ℕ → Platter) → ℕ → ℕ → List ℕ
settled_at at s zero = (at 0).contents s
settled_at at s (suc k) = if (at (suc k)).is_open s then settled_at at s k else (at (suc k)).contents s

-- what sector s held when it was last not open: its bytes as last synced
abbrev pub last_synced : State → ℕ → List ℕ
last_synced d s = settled_at d.at s d.clock
