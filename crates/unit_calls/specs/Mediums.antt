-- What a caller does with his medium (this project's profile). Sectors have 512 bytes and are numbered from 0.
use Rattle.std.specs.Prelude.{◌≡◌, ℕ, ◌-◌, ◌*◌, ◌==◌, ◌&&◌, nat_le, nat_lt, Bool, true, false, if◌then◌else◌, List, length}
use Rattle.disk.specs.State.{Platter, sector_of}
use Rattle.unit_calls.specs.declared.call_values.EtcsRequest.{EtcsRequest}

-- whether a write, as it is reported, is of sector s
abbrev pub is_of : EtcsRequest → ℕ → Bool
is_of reported s = nat_le reported.sector s && nat_lt (s - reported.sector) reported.sectors

-- the medium after a write: its sectors have these bytes, and stay open until a sync
abbrev pub written_on : EtcsRequest → List ℕ → Platter → Platter
written_on reported bytes medium = record {
  contents = λ s. if is_of reported s then sector_of bytes (s - reported.sector) else medium.contents s;
  is_open = λ s. if is_of reported s then true else medium.is_open s;
}

-- the medium where no sector is open, with these contents
abbrev pub at_rest : (ℕ → List ℕ) → Platter
at_rest contents = record { contents = contents; is_open = λ s. false }

-- the medium after a request, as it is reported: a write, or a sync
abbrev pub carried_out : EtcsRequest → List ℕ → Platter → Platter
carried_out reported bytes medium = if reported.kind == 1 then written_on reported bytes medium else at_rest medium.contents

-- The bytes are those of a medium of so many sectors, of which none is open: power was lost since the last write, or it
-- was synced.
pub record IsAtRest (sectors : ℕ) (bytes : List ℕ) (medium : Platter) : Type 0 where
  pub size : length bytes ≡ 512 * sectors
  pub contents : (s : ℕ) → medium.contents s ≡ sector_of bytes s
  pub synced : (s : ℕ) → medium.is_open s ≡ false
