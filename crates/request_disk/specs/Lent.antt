-- What contracts see of a disk that is lent for reading some of its sectors (this project's profile). Sectors have 512
-- bytes and are numbered from 0.
use Rattle.std.specs.Prelude.{◌≡◌, ℕ, suc, zero, ◌+◌, ◌-◌, ◌*◌, ◌%◌, ◌^◌, ◌<◌, ◌≤◌, ◌==◌, nat_le, nat_lt, ◌&&◌, not, Bool, true, false, if◌then◌else◌, List, [], ◌∷◌, replicate, Option, Some, None}
use Rattle.disk.specs.State.{State, Platter, contents_of}
use Rattle.request_disk.specs.Requesting.{Requesting, request_state, knows}

-- The disk, which sectors of it were lent (how many, from the first of them on), how many calls failed, which sector a
-- read wanted last, and the first sector of the first write that was tried.
pub record Lent : Type 0 where
  pub disk : Requesting
  pub first : ℕ
  pub count : ℕ
  pub faults : ℕ
  pub wanted : Option ℕ
  pub tried : Option ℕ

-- a disk of which these sectors were just lent
abbrev pub lent_of : Requesting → ℕ → ℕ → Lent
lent_of disk first count = record { disk = disk; first = first; count = count; faults = 0; wanted = None; tried = None }

-- whether sector s is one of those that were lent
abbrev pub is_lent : ℕ → ℕ → ℕ → Bool
is_lent first count s = nat_le first s && nat_lt (s - first) count

-- whether a read of sector s fails: it was lent, and isn't known
abbrev pub fails_at : Requesting → ℕ → ℕ → ℕ → Bool
fails_at d first count s = is_lent first count s && not (knows s d)

-- sector s is one of those that were lent, the medium has it, and it isn't known
pub record IsMissing (d : Requesting) (first count s : ℕ) : Type 0 where
  pub lent : (first ≤ s) × (s < first + count)
  pub below : s < d.sectors
  pub unknown : knows s d ≡ false

-- a sector is wanted that is missing
abbrev pub WantsMissing : Requesting → ℕ → ℕ → Option ℕ → Type 0
WantsMissing d first count None = ⊥
WantsMissing d first count (Some s) = IsMissing d first count s

-- a read of none of the sectors from `first` on fails that so many bytes fill
abbrev pub ReadsAll : ℕ → ℕ → Lent → Type 0
ReadsAll first bytes r = (i : ℕ) → 512 * i < bytes → fails_at r.disk r.first r.count (first + i) ≡ false

-- sector s is the first of these at which a read fails
pub record IsFirstMissing (first bytes : ℕ) (r : Lent) (s : ℕ) : Type 0 where
  pub from : first ≤ s
  pub below : 512 * s < 512 * first + bytes
  pub fails : fails_at r.disk r.first r.count s ≡ true
  pub before : (t : ℕ) → first ≤ t → t < s → fails_at r.disk r.first r.count t ≡ false

-- the first of these at which a read fails is wanted, a failure was counted, and all else is as it was
abbrev pub Misses : ℕ → ℕ → Lent → Lent → Type 0
Misses first bytes old new = (s : ℕ) × IsFirstMissing first bytes old s
    × (new ≡ record old { faults = (old.faults + 1) % 2 ^ 64; wanted = Some s })

-- where no write was tried a call that failed was a read, and a sector is wanted that is missing
abbrev pub DescribesMissing : Lent → Type 0
DescribesMissing r = r.tried ≡ None → 0 < r.faults → WantsMissing r.disk r.first r.count r.wanted

-- ---- as a disk

-- What it holds: what the disk holds of the sectors that were lent, or that are known. A sector that wasn't lent, and
-- isn't known, has zeros.
abbrev pub lent_contents : Requesting → ℕ → ℕ → ℕ → List ℕ
lent_contents d first count s = if is_lent first count s then contents_of (request_state d) s
    else (if knows s d then contents_of (request_state d) s else replicate 512 0)

-- a sector at which a read fails has one byte here, each other none
abbrev pub mark_of : Bool → List ℕ
mark_of true = 0 ∷ []
mark_of false = []

abbrev pub is_that : ℕ → Option ℕ → Bool
is_that s None = false
is_that s (Some t) = s == t

-- Its moments: the first marks at which sectors a read fails, in the second the disk holds what it held as it was lent, and
-- from the third on the sector of the first write is open besides.
abbrev pub lent_at : Requesting → ℕ → ℕ → Option ℕ → ℕ → Platter
lent_at d first count tried zero = record { contents = λ s. mark_of (fails_at d first count s); is_open = λ s. false }
lent_at d first count tried (suc zero) = record { contents = lent_contents d first count; is_open = λ s. false }
lent_at d first count tried (suc (suc k)) = record { contents = lent_contents d first count; is_open = λ s. is_that s tried }

abbrev pub lent_clock : Option ℕ → ℕ
lent_clock None = 1
lent_clock (Some s) = 2

-- It is honest. No call changes what it holds, and each write fails.
abbrev pub lent_state : Lent → State
lent_state r = record {
  sectors = r.disk.sectors;
  faults = r.faults;
  honest = true;
  clock = lent_clock r.tried;
  at = lent_at r.disk r.first r.count r.tried;
}
