-- The numbers and the names by which refusals are reported (this project's profile).
use Rattle.std.specs.Prelude.{ℕ, List, codes}
use Rattle.unit_start.specs.declared.errors.OpenError.{OpenError}
use Rattle.unit_start.specs.declared.errors.OpenError.TheVariants as an_open

abbrev pub open_number : OpenError → ℕ
open_number an_open.DeviceFault = 1
open_number an_open.NotFormatted = 2
open_number an_open.Damaged = 3
open_number an_open.NoMemory = 4
open_number an_open.WornOut = 6

abbrev pub open_name : OpenError → List ℕ
open_name an_open.DeviceFault = codes "DeviceFault"
open_name an_open.NotFormatted = codes "NotFormatted"
open_name an_open.Damaged = codes "Damaged"
open_name an_open.NoMemory = codes "NoMemory"
open_name an_open.WornOut = codes "WornOut"
