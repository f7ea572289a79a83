-- The fields of a packet by the rows of its layout, or the first one that isn't whole (SUBSET-026, 7.4.2). A row whose
-- number is a counter is followed by the deeper rows, so often as it says; a row with a condition comes where the last
-- qualifier, or the packet's gate, has that number. Places and widths are bits, counted from the first bit of NID_PACKET.
use Rattle.std.specs.Prelude.{ℕ, zero, suc, ◌+◌, ◌-◌, ◌==◌, nat_lt, Bool, true, false, List, [], ◌∷◌, ◌++◌, length, take, drop, Option, Some, None, Result, Ok, Err, if◌then◌else◌}
use Rattle.std.specs.List.{take_while}
use Rattle.bits.specs.Bits.{number}
use Rattle.track_packets.specs.Variables.{width_of}
use Rattle.track_packets.specs.declared.fault.FieldFault.{FieldFault}
use Rattle.track_packets.specs.declared.fault.FieldFault.TheVariants.{CutOff, TooMany}
use Rattle.track_packets.specs.declared.reading.Field.{Field}
use Rattle.track_packets.specs.declared.row.Role.{Role}
use Rattle.track_packets.specs.declared.row.Role.TheVariants as roles
use Rattle.track_packets.specs.declared.row.Row.{Row}
use Rattle.track_packets.specs.declared.row.When.{When}
use Rattle.track_packets.specs.declared.row.When.TheVariants as whens

-- What is known of a packet of so many bits while it is read: its fields so far, the number of its gate and of its last
-- qualifier, and the bits that are left.
pub record Reported : Type 0 where
  pub fields : List Field
  pub gate : Option ℕ
  pub qualifier : Option ℕ
  pub whole : ℕ
  pub left : List Bool

-- ---- a row

abbrev pub is_number : ℕ → Option ℕ → Bool
is_number v None = false
is_number v (Some n) = n == v

-- whether a row comes
abbrev pub comes : When → Reported → Bool
comes whens.Always t = true
comes (whens.Qualifier v) t = is_number v t.qualifier
comes (whens.Gate v) t = is_number v t.gate

-- a number that was read, in the part that it has for other rows
abbrev pub noted : Role → ℕ → Reported → Reported
noted roles.Plain n t = t
noted roles.Counter n t = t
noted roles.Qualifier n t = record t { qualifier = Some n }
noted roles.Gate n t = record t { gate = Some n }

-- how often the deeper rows after a row come
abbrev pub times_reported : Role → ℕ → ℕ
times_reported roles.Plain n = 0
times_reported roles.Counter n = n
times_reported roles.Qualifier n = 0
times_reported roles.Gate n = 0

-- the field at the front of the bits that are left
abbrev pub next_field : Row → Reported → Field
next_field row t = record { variable = row.variable; start = t.whole - length t.left; width = width_of row.variable; number = number (take (width_of row.variable) t.left) }

abbrev pub with_field : Row → Reported → Reported
with_field row t =
    noted row.role (number (take (width_of row.variable) t.left)) (record t { fields = t.fields ++ next_field row t ∷ []; left = drop (width_of row.variable) t.left })

-- the fault of a row whose bits aren't all there
abbrev pub fault_at : Row → ℕ → FieldFault
fault_at row start =
    if row.depth == 0 then CutOff (record { variable = row.variable; start = start }) else TooMany (record { variable = row.variable; start = start })

-- a row, and how often the deeper rows after it come
abbrev pub read_row : Row → Reported → Result (Reported × ℕ) FieldFault
read_row row t =
    if comes row.when t
    then (if nat_lt (length t.left) (width_of row.variable)
    then Err (fault_at row (t.whole - length t.left))
    else Ok (with_field row t, times_reported row.role (number (take (width_of row.variable) t.left))))
    else Ok (t, 0)

-- ---- rows

abbrev pub then_read : {A B : Type 0} → Result A FieldFault → (A → Result B FieldFault) → Result B FieldFault
then_read (Ok x) f = f x
then_read (Err e) f = Err e

-- so many times
unfoldable pub times : ℕ → (Reported → Result Reported FieldFault) → Reported → Result Reported FieldFault
times zero f t = Ok t
times (suc n) f t = then_read (f t) (λ s. times n f s)

-- the rows at the front that are in more lists than so many
abbrev pub deeper : ℕ → List Row → List Row
deeper depth rows = take_while (λ row. nat_lt depth row.depth) rows

-- The rows of a depth, each with the deeper ones after it, where so many depths are left.
unfoldable pub read_rows : ℕ → ℕ → List Row → Reported → Result Reported FieldFault
read_rows zero depth rows t = Ok t
read_rows (suc levels) depth [] t = Ok t
read_rows (suc levels) depth (row ∷ rows) t =
    if nat_lt depth row.depth then read_rows (suc levels) depth rows t
    else then_read (read_row row t) (λ r. then_read (times r.1 (λ s. read_rows levels (depth + 1) (deeper depth rows) s) r.0) (λ s. read_rows (suc levels) depth rows s))
