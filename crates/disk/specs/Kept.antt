-- What the fields of a disk in memory keep (this project's profile). Sectors are numbered from 0.
use Rattle.std.specs.Prelude.{◌≡◌, ℕ, ◌*◌, ◌<◌, ◌≤◌, vec_len, vec_capacity, slice_index_or, All}
use Rattle.disk.specs.Record.{IsWithin, trace_of}
use Rattle.disk.specs.declared.record.Place.TheVariants.{Start}
use Rattle.disk.specs.declared.memory.Memory.TheInside.{Inside}

-- It began with whole sectors, its calls are of sectors that it has, it stays within its space, the space was taken,
-- and where a read finds each sector is what the calls report.
pub record IsKept (m : Inside) : Type 0 where
  pub whole : vec_len m.start ≡ 512 * m.sectors
  pub recorded : All (IsWithin m.sectors (vec_len m.written)) m.calls.items
  pub calls_fit : (vec_len m.calls ≤ m.space.calls) × (m.space.calls ≤ vec_capacity m.calls)
  pub bytes_fit : (vec_len m.written ≤ m.space.bytes) × (m.space.bytes ≤ vec_capacity m.written)
  pub placed : (vec_len m.places ≡ m.sectors) × ((s : ℕ) → s < m.sectors → slice_index_or m.places.items s Start ≡ (trace_of s m.calls.items).last)
  pub planned : m.planned_at ≤ vec_len m.calls
