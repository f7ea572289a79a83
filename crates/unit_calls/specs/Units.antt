-- What the calls do to a handle that has a unit, a power-up that is under way, or neither (this project's profile). Each is
-- made of steps that have their own definitions.
use Rattle.std.specs.Prelude.{◌≡◌, ◌⊎◌, ℕ, ◌==◌, List, Option, Some, None, is_some}
use Rattle.c_numbers.specs.Numbers.{this_abi}
use Rattle.mode_table.specs.declared.statuses.Cold.{Cold}
use Rattle.relayed_unit.specs.Openings.{Opening, initial, IsGoing}
use Rattle.unit_calls.specs.ColdNumbers.{cold_by}
use Rattle.unit_calls.specs.Contents.{OnUnit, OnUnitInto, under_way}
use Rattle.unit_calls.specs.Goings.{GoesOn}
use Rattle.unit_calls.specs.Handles.{Fails}
use Rattle.unit_calls.specs.Openings.{DescribesRead, Provides}
use Rattle.unit_calls.specs.Requests.{IfElse, Description, DescribesNext}
use Rattle.unit_calls.specs.Sectors.{ProvidesOn}
use Rattle.unit_calls.specs.Statuses.{is_done}
use Rattle.unit_calls.specs.declared.handle.Content.{Content}
use Rattle.unit_calls.specs.declared.handle.Content.TheVariants as a_content
use Rattle.unit_calls.specs.declared.status.Status.{Status}
use Rattle.unit_calls.specs.declared.status.Status.TheVariants as a_status

-- a power-up begins with this cold movement value, where there is one, over a medium of these bytes, and goes on;
-- OpenNoMemory where there is none for it
abbrev pub Begins : List ℕ → ℕ → Option Cold → Option Content → Status → Type 0
Begins medium sectors None after status = (status ≡ a_status.OutOfRange) × (after ≡ None)
Begins medium sectors (Some cold) after status = ((status ≡ a_status.OpenNoMemory) × (after ≡ None))
    ⊎ ((opening : Opening) × (opening ≡ initial medium sectors cold) × IsGoing medium opening × GoesOn opening after status)

-- the same in any handle: what is open or under way stays as it is
abbrev pub BeginsUnit : List ℕ → ℕ → ℕ → ℕ → Option Content → Option Content → Status → Type 0
BeginsUnit medium sectors cold abi before after status = IfElse (is_some before) ((status ≡ a_status.IsOpen) × (after ≡ before))
    (IfElse (abi == this_abi) (Begins medium sectors (cold_by cold) after status) ((status ≡ a_status.OtherAbi) × (after ≡ None)))

-- a sector is handed in: to the power-up that is under way, which goes on then, or else to the unit
abbrev pub ProvidesTo : ℕ → List ℕ → Option Content → Option Content → Status → Type 0
ProvidesTo sector bytes (Some (a_content.PowerUp opening)) after status = (given : Opening) × (answer : Status)
    × Provides sector bytes opening given answer
    × IfElse (is_done answer) (GoesOn given after status) ((status ≡ answer) × (after ≡ Some (a_content.PowerUp given)))
ProvidesTo sector bytes before after status = OnUnit before after status (ProvidesOn sector bytes)

-- what is to be done next is reported: by the power-up that is under way, or else by the unit
abbrev pub RequestsOf : Option Content → Option Content → Description → Type 0
RequestsOf (Some (a_content.PowerUp opening)) after t = DescribesRead opening t.request t.reported t.status
    × (t.bytes ≡ t.caller_buffer) × (after ≡ Some (a_content.PowerUp opening))
RequestsOf before after t = OnUnitInto ((t.reported ≡ t.request) × (t.bytes ≡ t.caller_buffer)) before after t.status
    (λ was is status. (is ≡ was) × DescribesNext was t)

-- the medium failed: a power-up that is under way is abandoned
abbrev pub FailsUnit : Option Content → Option Content → Status → Type 0
FailsUnit before after status = IfElse (is_some (under_way before)) ((status ≡ a_status.Done) × (after ≡ None))
    (OnUnit before after status Fails)
