-- A file in memory at a moment (this project's profile of tests). Offsets are bytes.
use Rattle.std.specs.Prelude.{ℕ, ◌+◌, ◌*◌, ◌&&◌, nat_lt, Bool, List}
use Rattle.std.specs.List.{list_any}
use Rattle.file_disk.specs.Files.{FileMoment}
use Rattle.file_disk.specs.declared.moment.Part.{Part}
use Rattle.file_disk.specs.declared.moment.Moment.{Moment}

-- one of these bytes is in sector s
abbrev pub is_in : ℕ → Part → Bool
is_in s part = nat_lt (512 * s) (part.offset + part.count) && nat_lt part.offset (512 * s + 512)

-- one of the bytes written since the last sync is in sector s
abbrev pub is_open_in : List Part → ℕ → Bool
is_open_in parts s = list_any (is_in s) parts

-- what contracts see of it
abbrev pub moment_of : Moment → FileMoment
moment_of m = record { bytes = m.bytes.items; is_open = λ s. is_open_in m.parts.items s }
