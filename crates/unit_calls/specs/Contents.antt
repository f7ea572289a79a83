-- What a handle holds, and what a call on its unit does to that (this project's profile).
use Rattle.std.specs.Prelude.{◌≡◌, Bool, ◌||◌, Option, Some, None, is_some}
use Rattle.relayed_unit.specs.Openings.{Opening}
use Rattle.unit_calls.specs.Handles.{OnHandle, OnHandleInto}
use Rattle.unit_calls.specs.declared.handle.Content.{Content}
use Rattle.unit_calls.specs.declared.handle.Content.TheVariants as a_content
use Rattle.unit_calls.specs.declared.handle.Opened.{Opened}
use Rattle.unit_calls.specs.declared.status.Status.{Status}
use Rattle.unit_calls.specs.declared.status.Status.TheVariants as a_status

-- the unit that is open, None where none is
abbrev pub unit_in : Option Content → Option Opened
unit_in (Some (a_content.Unit opened)) = Some opened
unit_in content = None

-- the power-up that is under way, None where none is
abbrev pub under_way : Option Content → Option Opening
under_way (Some (a_content.PowerUp opening)) = Some opening
under_way content = None

-- whether it is one of the two: between two calls a handle has nothing else
abbrev pub is_held : Option Content → Bool
is_held content = is_some (unit_in content) || is_some (under_way content)

-- a call on the unit; a power-up that is under way stays as it is
abbrev pub OnUnit : Option Content → Option Content → Status → (Opened → Opened → Status → Type 0) → Type 0
OnUnit before after status So = OnHandle (unit_in before) (unit_in after) status So × (under_way after ≡ under_way before)

-- the same of a call that writes into places of the caller
abbrev pub OnUnitInto : Type 0 → Option Content → Option Content → Status → (Opened → Opened → Status → Type 0) → Type 0
OnUnitInto AsTheyWere before after status So =
    OnHandleInto AsTheyWere (unit_in before) (unit_in after) status So × (under_way after ≡ under_way before)

-- what closing answers
abbrev pub closing : Option Content → Status
closing None = a_status.NotOpen
closing (Some content) = a_status.Done
