-- What a cut is chosen to leave (this project's profile). Sectors are numbered from 0.
use Rattle.std.specs.Prelude.{◌≡◌, ℕ, suc, zero, ◌+◌, ◌<◌, if◌then◌else◌, List, length, slice_index_or, All}
use Rattle.disk.specs.State.{State, Platter, now, contents_of, last_synced}
use Rattle.disk.specs.declared.choice.Choice.{Choice}
use Rattle.disk.specs.declared.choice.Choice.TheVariants.{Old, New, Given}

-- how many sectors below s are open
abbrev pub open_below : Platter → ℕ → ℕ
open_below p zero = 0
open_below p (suc s) = open_below p s + (if p.is_open s then 1 else 0)

-- the i-th choice, Old past the end of the list
abbrev pub choice_at : List Choice → ℕ → Choice
choice_at choices i = slice_index_or choices i Old

-- what an open sector holds after a cut: its bytes as last synced, those last handed in, or given ones (this
-- project's profile)
abbrev pub chosen : List ℕ → List ℕ → Choice → List ℕ
chosen old new Old = old
chosen old new New = new
chosen old new (Given bytes) = bytes

-- What sector s holds after a cut: what it held, and where it is open, what is chosen for it. The i-th choice is for
-- the i-th open sector, in rising order.
abbrev pub settled_sector : State → (ℕ → List ℕ) → List Choice → ℕ → List ℕ
settled_sector d handed choices s = if (now d).is_open s then chosen (last_synced d s) (handed s) (choice_at choices (open_below (now d) s)) else contents_of d s

-- 512 bytes
pub record IsSector (sector : List ℕ) : Type 0 where
  pub size : length sector ≡ 512
  pub bytes : All (λ b. b < 256) sector

-- bytes that are given are a sector
abbrev pub IsChoice : Choice → Type 0
IsChoice Old = Unit {0}
IsChoice New = Unit {0}
IsChoice (Given bytes) = IsSector bytes

-- each sector is made of bytes
abbrev pub HoldsBytes : (ℕ → List ℕ) → Type 0
HoldsBytes c = (s : ℕ) → All (λ b. b < 256) (c s)
