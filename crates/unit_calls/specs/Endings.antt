-- How many sectors a power-up asks for, and when it wants memory (this project's profile). Sectors have 512 bytes and are
-- numbered from 0.

-- Taken for granted: each call meets its contract, which is proved. `etcs_unit_begin` goes on (`IsGoneOn`), and
-- `etcs_unit_provide` takes a sector (`IsProvided`) and goes on. The caller hands in the sector that is reported to be read,
-- and no other one; its bytes may be any.
use Rattle.std.specs.Prelude.{◌≡◌, ◌≢◌, ℕ, ◌+◌, ◌*◌, ◌≤◌, List, [], ◌∷◌, length, Option, Some, Ok}
use Rattle.mode_table.specs.declared.statuses.Cold.{Cold}
use Rattle.relayed_unit.specs.Openings.{Opening, initial, slots_in}
use Rattle.relayed_unit.specs.declared.powering_up.Going.TheVariants as a_going
use Rattle.unit_calls.specs.Goings.{IsGoneOn}
use Rattle.unit_calls.specs.Openings.{IsProvided}
use Rattle.unit_calls.specs.Units.{ProvidesTo}
use Rattle.unit_calls.specs.declared.handle.Content.{Content}
use Rattle.unit_calls.specs.declared.status.Status.{Status}
use Rattle.unit_calls.specs.declared.status.Status.TheVariants.{OpenNoMemory}

-- A power-up went on and wanted the first of these sectors, which was handed in; then it went on and wanted the next of
-- them; and so on.
abbrev pub AreWanted : List ℕ → Opening → Opening → Type 0
AreWanted [] first last = last ≡ first
AreWanted (sector ∷ more) first last = (opening : Opening) × (bytes : List ℕ) × (next : Opening)
    × IsGoneOn first (Ok (a_going.Wants opening)) × (opening.disk.wanted ≡ Some sector) × IsProvided sector bytes opening next
    × AreWanted more next last

-- It wants a sector at most so often, whatever the medium holds: the first one, two for each slot, and seven more. So it
-- ends, open or refused.
abbrev pub WantsFew : Type 0
WantsFew = (medium wanted : List ℕ) (sectors : ℕ) (cold : Cold) (last : Opening) → AreWanted wanted (initial medium sectors cold) last
    → length wanted ≤ 1 + 2 * slots_in sectors + 7

-- Memory for a power-up is wanted only where it begins: once a sector was handed in, no call is refused for it.
abbrev pub WantsNoMemory : Type 0
WantsNoMemory = (sector : ℕ) (bytes : List ℕ) (before after : Option Content) (status : Status) → ProvidesTo sector bytes before after status
    → status ≢ OpenNoMemory
