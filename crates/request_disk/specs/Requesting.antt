-- What contracts see of a disk that hands out its calls, and holds some sectors of its medium (this project's profile).
-- Sectors have 512 bytes and are numbered from 0; requests are in the order of the calls.
use Rattle.std.specs.Prelude.{◌≡◌, ℕ, ◌-◌, ◌*◌, ◌/◌, ◌≤◌, min, ◌&&◌, ◌||◌, ◌∷◌, ◌++◌, [], nat_le, nat_lt, Bool, if◌then◌else◌, List, length, All, Option, None, is_some, vec_len, vec_capacity}
use Rattle.disk.specs.State.{State}
use Rattle.disk.specs.Record.{state_of, IsWithin}
use Rattle.disk.specs.declared.record.Call.{Call}
use Rattle.disk.specs.declared.record.Call.TheVariants.{Written}
use Rattle.request_disk.specs.Requests.{IsRequest, found_in}
use Rattle.request_disk.specs.Medium.{with_sectors, carried}
use Rattle.request_disk.specs.Known.{has_number, with_number, IsHeld}
use Rattle.request_disk.specs.declared.requesting.RequestDisk.TheInside.{Inside}

-- How many sectors the medium has, the bytes that it held when its list of requests was last empty, the sectors whose
-- bytes were handed in, from the one that came first on, the requests since the list was empty, the bytes that they
-- write, one after the other, how many calls failed, and which sector is wanted.
pub record Requesting : Type 0 where
  pub sectors : ℕ
  pub medium : List ℕ
  pub known : List ℕ
  pub requests : List Call
  pub written : List ℕ
  pub faults : ℕ
  pub wanted : Option ℕ

-- a new one of whose medium nothing is known
abbrev pub nothing_of : List ℕ → ℕ → Requesting
nothing_of medium sectors = record {
  sectors = sectors;
  medium = medium;
  known = [];
  requests = [];
  written = [];
  faults = 0;
  wanted = None;
}

-- What contracts see of it as a disk. It is honest, and its moments are its requests: moment k is after the first k of
-- them. A read is no moment. It holds what the medium holds, also of a sector that isn't known.
abbrev pub request_state : Requesting → State
request_state d = state_of d.sectors d.faults d.medium d.written d.requests

-- there is space for a request that writes so many bytes
abbrev pub has_space_for : ℕ → Requesting → Bool
has_space_for bytes d = nat_lt (length d.requests) 16 && nat_le bytes (8192 - length d.written)

-- how many units of calls there is space for: each takes a request, and each sector of a write its bytes
abbrev pub request_reserve : Requesting → ℕ
request_reserve d = min (16 - length d.requests) ((8192 - length d.written) / 512)

-- What is so of every such disk: its medium has whole sectors, each request is of sectors that it has, with bytes that
-- are there, and where there is no request there are no bytes.
pub record IsRequesting (d : Requesting) : Type 0 where
  pub whole : length d.medium ≡ 512 * d.sectors
  pub within : All (IsWithin d.sectors (length d.written)) d.requests
  pub only : All IsRequest d.requests
  pub none : length d.requests ≡ 0 → length d.written ≡ 0

-- The same of its fields. What it holds is the medium's, and the space for 16 requests and 8,192 bytes was taken.
pub record IsKept (m : Inside) : Type 0 where
  pub whole : length m.medium.bytes ≡ 512 * m.sectors
  pub held : All (IsHeld m.sectors m.medium.bytes) m.known
  pub within : All (IsWithin m.sectors (vec_len m.written)) m.requests.items
  pub only : All IsRequest m.requests.items
  pub none : vec_len m.requests ≡ 0 → vec_len m.written ≡ 0
  pub requests_fit : (vec_len m.requests ≤ 16) × (16 ≤ vec_capacity m.requests)
  pub bytes_fit : (vec_len m.written ≤ 8192) × (8192 ≤ vec_capacity m.written)

-- ---- what is known

-- whether the bytes of sector s are known: they are held, or a request writes them
abbrev pub knows : ℕ → Requesting → Bool
knows s d = is_some (found_in s d.requests) || has_number s d.known

-- ---- what a call leaves

-- a request was added after the others, with the bytes that it writes, and all else is as it was
abbrev pub IsNoted : Call → List ℕ → Requesting → Requesting → Type 0
IsNoted request bytes old new = new ≡ record old { requests = old.requests ++ request ∷ []; written = old.written ++ bytes }

-- the request to write these bytes from sector `first` on
abbrev pub write_of : ℕ → List ℕ → Requesting → Call
write_of first bytes d = Written (record { first = first; sectors = length bytes / 512; from = length d.written })

-- the same disk, with a sector handed in: one that isn't known is held from then on, on a medium with these bytes there
abbrev pub with_sector : ℕ → List ℕ → Requesting → Requesting
with_sector s bytes d =
    if knows s d then record d { wanted = None }
    else record d {
      medium = with_sectors bytes d.medium (record { first = s; sectors = 1; from = 0 });
      known = with_number s d.known;
      wanted = None;
    }

-- the same disk; no sector is wanted
abbrev pub wanting_nothing : Requesting → Requesting
wanting_nothing d = record d { wanted = None }

-- the same disk, with the requests carried out on its medium; no sector is wanted
abbrev pub with_carried : Requesting → Requesting
with_carried d = record d { medium = carried d.written d.medium d.requests; requests = []; written = []; wanted = None }
