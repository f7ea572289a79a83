-- What a function that says fields returned, along with what the definitions give (this project's profile). Where memory was
-- refused nothing is said.
use Rattle.std.specs.Prelude.{◌≡◌, ℕ, Bool, List, Result, Ok, Err}
use Rattle.bits.specs.Layout.{Begins, Refuses}
use Rattle.packets.specs.Packets.{packet}
use Rattle.packets.specs.declared.packet.Packet.{Packet}
use Rattle.track_packets.specs.Kernel.{kernel_fields}
use Rattle.track_packets.specs.declared.fault.FieldFault.{FieldFault}
use Rattle.track_packets.specs.declared.reading.Field.{Field}
use Rattle.track_packets.specs.declared.reading.FieldsError.{FieldsError}
use Rattle.track_packets.specs.declared.reading.FieldsError.TheVariants.{NoMemory, NotThere, Refused, Fault}

-- The error is the fault that the rows give.
abbrev pub Fails : {B : Type 0} → FieldsError → Result B FieldFault → Type 0
Fails NoMemory given = Unit {0}
Fails NotThere given = ⊥
Fails (Refused e) given = ⊥
Fails (Fault f) given = given ≡ Err f

-- The answer, seen by view, is what the rows give, or their fault.
abbrev pub Gives : {A B : Type 0} → (A → B) → Result A FieldsError → Result B FieldFault → Type 0
Gives view (Ok x) given = given ≡ Ok (view x)
Gives view (Err e) given = Fails e given

-- The answer, seen by view, has the fields of the packet that the bits begin with and no bits after them, or the fault
-- for which `packets` refuses it.
abbrev pub DescribesKernel : {A : Type 0} → (A → List Field × ℕ) → Result A FieldsError → List Bool → Type 0
DescribesKernel view (Ok x) bits = (p : Packet) × (rest : List Bool) × Begins packet p bits rest × (view x ≡ (kernel_fields p, 0))
DescribesKernel view (Err NoMemory) bits = Unit {0}
DescribesKernel view (Err NotThere) bits = ⊥
DescribesKernel view (Err (Refused e)) bits = Refuses packet e bits
DescribesKernel view (Err (Fault f)) bits = ⊥
