-- What an opening answers (this project's profile).
use Rattle.std.specs.Prelude.{Bool, true, false, Result, Ok, Err}
use Rattle.journal.specs.declared.errors.OpenError as its
use Rattle.journal.specs.declared.errors.OpenError.TheVariants as its_variants
use Rattle.unit_start.specs.declared.errors.OpenError.{OpenError}
use Rattle.unit_start.specs.declared.errors.OpenError.TheVariants as an_open

abbrev pub is_device : OpenError → Bool
is_device an_open.DeviceFault = true
is_device an_open.NotFormatted = false
is_device an_open.Damaged = false
is_device an_open.NoMemory = false
is_device an_open.WornOut = false

-- whether the device failed in an opening
abbrev pub open_failed : {T : Type 0} → Result T OpenError → Bool
open_failed (Ok x) = false
open_failed (Err e) = is_device e

-- a refusal of the journal
abbrev pub refused_as : its.OpenError → OpenError
refused_as its_variants.DeviceFault = an_open.DeviceFault
refused_as its_variants.NotFormatted = an_open.NotFormatted
refused_as its_variants.Damaged = an_open.Damaged

-- what an opening may answer on a formatted disk
abbrev pub is_met : OpenError → Bool
is_met an_open.DeviceFault = true
is_met an_open.NotFormatted = false
is_met an_open.Damaged = false
is_met an_open.NoMemory = false
is_met an_open.WornOut = true

-- whether no number is left
abbrev pub is_worn : OpenError → Bool
is_worn an_open.DeviceFault = false
is_worn an_open.NotFormatted = false
is_worn an_open.Damaged = false
is_worn an_open.NoMemory = false
is_worn an_open.WornOut = true

-- whether memory was refused in an opening
abbrev pub wants_memory : OpenError → Bool
wants_memory an_open.DeviceFault = false
wants_memory an_open.NotFormatted = false
wants_memory an_open.Damaged = false
wants_memory an_open.NoMemory = true
wants_memory an_open.WornOut = false
