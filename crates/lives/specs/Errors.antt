-- Why a walk over an image did not come to its end (this project's profile).
use Rattle.std.specs.Prelude.{◌⊎◌, ℕ, List, Bool, true, false, Result, Ok, Err}
use Rattle.std.specs.declared.io.ErrorKind.{ErrorKind}
use Rattle.std.specs.declared.io.ErrorKind.TheVariants.{OutOfMemory}
use Rattle.journal.specs.declared.errors.OpenError.{OpenError}
use Rattle.journal.specs.declared.errors.OpenError.TheVariants as an_open
use Rattle.journal.specs.Journals.{IsHeaderRefusal}
use Rattle.ring.specs.Slots.{IsFormatted}
use Rattle.lives.specs.declared.errors.LateError.{LateError}
use Rattle.lives.specs.declared.errors.LateError.TheVariants as a_late
use Rattle.lives.specs.declared.errors.WalkError.{WalkError}
use Rattle.lives.specs.declared.errors.WalkError.TheVariants as an_error

-- whether the device failed
abbrev pub is_device : WalkError → Bool
is_device an_error.DeviceFault = true
is_device _ = false

abbrev pub walk_failed : {T : Type 0} → Result T WalkError → Bool
walk_failed (Ok x) = false
walk_failed (Err e) = is_device e

-- the first sector is that of an image of some slots, and the disk has the sectors for them
abbrev pub IsImageOf : ℕ → List ℕ → Type 0
IsImageOf sectors first = (slots : ℕ) × IsFormatted sectors slots first

-- why a first sector was refused, for the caller of a walk
abbrev pub unopened : OpenError → WalkError
unopened an_open.DeviceFault = an_error.DeviceFault
unopened an_open.NotFormatted = an_error.NotFormatted
unopened an_open.Damaged = an_error.Damaged

-- what an error says of the first sector and the size of the disk
abbrev pub IsRefusal : ℕ → List ℕ → WalkError → Type 0
IsRefusal sectors first an_error.DeviceFault = IsHeaderRefusal sectors first an_open.DeviceFault
IsRefusal sectors first an_error.NotFormatted = IsHeaderRefusal sectors first an_open.NotFormatted
IsRefusal sectors first an_error.Damaged = IsHeaderRefusal sectors first an_open.Damaged
IsRefusal sectors first _ = ⊥

-- an error that may come after the first sector
abbrev pub IsLate : WalkError → Type 0
IsLate an_error.NotFormatted = ⊥
IsLate an_error.Damaged = ⊥
IsLate _ = Unit {0}

-- why a walk stopped: for the first sector, or later, on an image
abbrev pub IsCause : ℕ → List ℕ → WalkError → Type 0
IsCause sectors first e = IsRefusal sectors first e ⊎ (IsLate e × IsImageOf sectors first)

-- an error that comes before the first step: of the image, or of the device
abbrev pub IsBeforeSteps : WalkError → Type 0
IsBeforeSteps an_error.Write = ⊥
IsBeforeSteps an_error.NoMemory = ⊥
IsBeforeSteps _ = Unit {0}

-- what an error of a visitor is to the caller of a walk
abbrev pub walk_error : LateError → WalkError
walk_error a_late.Write = an_error.Write
walk_error a_late.NoMemory = an_error.NoMemory

-- what an error of the writer is to a visitor
abbrev pub writing_stopped : ErrorKind → LateError
writing_stopped OutOfMemory = a_late.NoMemory
writing_stopped _ = a_late.Write
