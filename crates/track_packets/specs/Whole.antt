-- The fields of a whole packet (SUBSET-026, 7.4.2), NID_PACKET first. Places and lengths are bits.
use Rattle.std.specs.Prelude.{ℕ, ◌-◌, ◌%◌, ◌==◌, nat_lt, Bool, true, false, List, [], length, Option, Some, None, Result, Ok, Err, if◌then◌else◌}
use Rattle.track_packets.specs.Fields.{Reported, then_read, read_rows}
use Rattle.track_packets.specs.Kinds.{kind_reported}
use Rattle.track_packets.specs.Layouts.{rows_of}
use Rattle.track_packets.specs.declared.fault.FieldFault.{FieldFault}
use Rattle.track_packets.specs.declared.fault.FieldFault.TheVariants.{TooLong}
use Rattle.track_packets.specs.declared.kind.Body.{Body}
use Rattle.track_packets.specs.declared.kind.Body.TheVariants as bodies
use Rattle.track_packets.specs.declared.kind.Kind.{Kind}
use Rattle.track_packets.specs.declared.layouts.TheConstants.{HEAD}
use Rattle.track_packets.specs.declared.reading.Field.{Field}

-- a packet before its first field
abbrev pub initial : List Bool → Reported
initial bits = record { fields = []; gate = None; qualifier = None; whole = length bits; left = bits }

-- whether the rows of a layout take all bits of the packet
abbrev pub takes_all : Body → Bool
takes_all bodies.Rows = true
takes_all bodies.RowsThenBits = false
takes_all bodies.Bits = false
takes_all bodies.Kernel = false
takes_all bodies.OwnOrRows = true
takes_all bodies.NumberOnly = false

abbrev pub takes_all_in : Option Kind → Bool
takes_all_in (Some kind) = takes_all kind.body
takes_all_in None = false

-- the fields, and how many bits are left after them: none where the rows take all
abbrev pub finished : Bool → Reported → Result (List Field × ℕ) FieldFault
finished all t =
    if all then (if nat_lt 0 (length t.left) then Err (TooLong (t.whole - length t.left)) else Ok (t.fields, length t.left))
    else Ok (t.fields, length t.left)

-- The fields of a packet by the rows of its layout, and how many bits are left after them; or the first fault.
abbrev pub fields_by_rows : ℕ → List Bool → Result (List Field × ℕ) FieldFault
fields_by_rows number bits =
    then_read (read_rows 3 0 HEAD (initial bits)) (λ t. then_read (read_rows 3 0 (rows_of number) t) (λ s. finished (takes_all_in (kind_reported number)) s))

-- whether the fields of a packet of so many bits are reported by `packets`
abbrev pub by_kernel : Body → ℕ → Bool
by_kernel bodies.Rows length = false
by_kernel bodies.RowsThenBits length = false
by_kernel bodies.Bits length = false
by_kernel bodies.Kernel length = true
by_kernel bodies.OwnOrRows length = length % 10 == 7
by_kernel bodies.NumberOnly length = false

abbrev pub is_kernels : Option Kind → ℕ → Bool
is_kernels (Some kind) length = by_kernel kind.body length
is_kernels None length = false
