-- What was handed out to a caller, and what his medium holds of it, whatever he calls and whenever power is lost (this
-- project's profile). Lists of events have the newest first; lists of outputs, of releases and of what happens have the
-- oldest first.

-- Taken for granted: each call meets its contract (`OnHandle`, `Takes`, `Prepares`, ..), which is proved; and what the
-- head of `etcs_unit.h` says that the caller owes. He hands in a sector as it is on his medium when he hands it
-- in, carries out the requests in their order, as they are reported, says of none that it is done before it is, and
-- nothing else writes there.

-- A call is one of the steps below, or two of them: `etcs_unit_provide` of an open unit is Providing, and where a sector was
-- wanted Preparing after it (`ProvidesOn`). `etcs_unit_begin` and `etcs_unit_provide` of a power-up are Finishing where
-- they leave a unit (`GoesOn`: `IsGoneOn`, `IsLeftOn`), else Asking. `etcs_unit_open` is these calls, one after the other.
use Rattle.std.specs.Prelude.{◌≡◌, ◌⊎◌, ℕ, ◌+◌, ◌≤◌, List, [], ◌∷◌, ◌++◌, length, map, take, Option, Some, None}
use Rattle.disk.specs.State.{Platter, IsImage}
use Rattle.events.specs.declared.input.Event.{Event}
use Rattle.events.specs.declared.input.Input.{Input}
use Rattle.mode_table.specs.declared.statuses.Cold.{Cold}
use Rattle.unit_start.specs.Events.{pairs_of}
use Rattle.unit_start.specs.Lives.{Describes}
use Rattle.unit_start.specs.Releases.{nothing_released}
use Rattle.relayed_unit.specs.Relayed.{Relayed}
use Rattle.unit_calls.specs.Handles.{OnHandle, OnHandleInto, Takes, Prepares, Says, Fails, Handing, Releases}
use Rattle.unit_calls.specs.Mediums.{at_rest, carried_out, IsAtRest}
use Rattle.unit_calls.specs.Outputs.{description_of}
use Rattle.unit_calls.specs.PowerUps.{before_any, IsUp}
use Rattle.unit_calls.specs.Requests.{IfElse, Description, DescribesRequest}
use Rattle.unit_calls.specs.Sectors.{Provides}
use Rattle.unit_calls.specs.Statuses.{is_done}
use Rattle.unit_calls.specs.declared.handle.Opened.{Opened}
use Rattle.unit_calls.specs.declared.outputs.EtcsOutput.{EtcsOutput}
use Rattle.unit_calls.specs.declared.status.Status.{Status}
use Rattle.unit_calls.specs.declared.status.Status.TheVariants as a_status

-- How it stands between two calls.
pub record Scene : Type 0 where
  -- what the handle holds
  pub handle : Option Opened
  -- the caller's medium
  pub medium : Platter
  -- how many requests of the list he has carried out
  pub carried : ℕ
  -- all outputs that he was ever handed
  pub handed : List EtcsOutput

-- What may happen next.
pub data Happening : Type 0 where
  -- a power-up that leads to a unit, with this cold movement value, over a medium of these bytes
  Finishing : List ℕ → Cold → Happening
  -- a call that takes an input; None stands for numbers outside their limits
  Taking : Option Input → Happening
  -- `etcs_unit_prepare`
  Preparing : Happening
  -- `etcs_unit_provide` of this sector with these bytes
  Providing : ℕ → List ℕ → Happening
  -- the next write or sync is carried out, as `etcs_unit_request` reports it once those before it are said to be done
  Carrying : Description → Happening
  -- `etcs_unit_done`, of so many: one more than before (`SaysNext`)
  Saying : ℕ → Happening
  -- `etcs_unit_fail`
  Failing : Happening
  -- `etcs_unit_release` into these places, but where it is refused since a sector has to be read (`ReleasesAfterReads`)
  Releasing : Handing → Happening
  -- `etcs_unit_request`, `etcs_unit_state`, a release that is refused since a sector has to be read, the calls that need no
  -- unit, and those on a power-up that is under way but its last
  Asking : Happening
  -- `etcs_unit_close`
  Closing : Happening
  -- power is lost, and the medium holds this
  Cutting : (ℕ → List ℕ) → Happening

-- the call left the medium alone, and handed out nothing
abbrev pub IsQuiet : Scene → Scene → Type 0
IsQuiet before after = (after.medium ≡ before.medium) × (after.carried ≡ before.carried) × (after.handed ≡ before.handed)

-- what a release hands out is after what was handed out before, and nothing of the next list is carried out
abbrev pub IsHandedOut : Handing → Scene → Scene → Type 0
IsHandedOut h before after = IfElse (is_done h.status)
    ((after.handed ≡ before.handed ++ take h.count h.handed) × (after.carried ≡ 0))
    ((after.handed ≡ before.handed) × (after.carried ≡ before.carried))

-- it happened to a caller whose medium has so many sectors
abbrev pub Happens : ℕ → Happening → Scene → Scene → Type 0
Happens sectors (Finishing bytes cold) before after =
    (unit : Relayed) × IsUp (before_any bytes sectors) cold unit
    × (after.handle ≡ Some (record { unit = unit; last = nothing_released })) × (before.handle ≡ None) × IsAtRest sectors bytes before.medium
    × (after.medium ≡ before.medium) × (after.handed ≡ before.handed) × (after.carried ≡ 0)
Happens sectors (Taking input) before after =
    (status : Status) × OnHandle before.handle after.handle status (Takes input) × IsQuiet before after
Happens sectors Preparing before after =
    (status : Status) × OnHandle before.handle after.handle status Prepares × IsQuiet before after
Happens sectors (Providing sector bytes) before after =
    (status : Status) × OnHandle before.handle after.handle status (Provides sector bytes)
    × (status ≡ a_status.Done → bytes ≡ before.medium.contents sector) × IsQuiet before after
Happens sectors (Carrying t) before after =
    (opened : Opened) × (before.handle ≡ Some opened) × DescribesRequest before.carried opened t × (t.status ≡ a_status.Done)
    × (after.handle ≡ before.handle) × (after.medium ≡ carried_out t.reported t.bytes before.medium)
    × (after.carried ≡ before.carried + 1) × (after.handed ≡ before.handed)
Happens sectors (Saying count) before after =
    (status : Status) × OnHandle before.handle after.handle status (Says count)
    × (status ≡ a_status.Done → count ≤ before.carried) × IsQuiet before after
Happens sectors Failing before after =
    (status : Status) × OnHandle before.handle after.handle status Fails × IsQuiet before after
Happens sectors (Releasing h) before after =
    OnHandleInto (Unit {0}) before.handle after.handle h.status (λ was is reported. Releases was is h)
    × (after.medium ≡ before.medium) × IsHandedOut h before after
Happens sectors Asking before after = (after.handle ≡ before.handle) × IsQuiet before after
Happens sectors Closing before after = (after.handle ≡ None) × IsQuiet before after
Happens sectors (Cutting image) before after =
    IsImage before.medium image × (after.handle ≡ None) × (after.medium ≡ at_rest image) × (after.handed ≡ before.handed)

-- these happened, one after the other
abbrev pub AllHappen : ℕ → List Happening → Scene → Scene → Type 0
AllHappen sectors [] first last = last ≡ first
AllHappen sectors (one ∷ more) first last = (next : Scene) × Happens sectors one first next × AllHappen sectors more next last

-- ---- what stays so

-- the first list is a part of the second: its elements stand there in the same order, each at a place of its own
abbrev pub IsPartOf : {X : Type 0} → List X → List X → Type 0
IsPartOf [] ys = Unit {0}
IsPartOf (x ∷ xs) [] = ⊥
IsPartOf (x ∷ xs) (y ∷ ys) = ((x ≡ y) × IsPartOf xs ys) ⊎ IsPartOf (x ∷ xs) ys

-- the outputs of these events, as C gets them
abbrev pub outputs_of : List Event → List EtcsOutput
outputs_of events = map description_of (pairs_of events)

-- the image represents a list of events of which these are the beginning, by blocks that are whole from this number on
abbrev pub HasAll : ℕ → ℕ → List Event → (ℕ → List ℕ) → Type 0
HasAll whole_from sectors events image = (all : List Event) × (more : List Event) × (all ≡ more ++ events) × Describes whole_from sectors all image

-- All of these outputs, which were handed out, are on the medium.
pub record AreOnMedium (whole_from sectors : ℕ) (handed : List EtcsOutput) (medium : Platter) : Type 0 where
  -- events whose outputs were handed out are among these
  pub durable : List Event
  -- in their order, each once
  pub outputs : IsPartOf handed (outputs_of durable)
  -- and whatever a loss of power may leave of the medium has these events
  pub each : (image : ℕ → List ℕ) → IsImage medium image → HasAll whole_from sectors durable image

-- Whatever is called, in whatever order, and wherever power is lost: all that was handed out is on the medium, at its
-- place in the list of events, and every later loss of power leaves it there.
abbrev pub HandedOutIsOnMedium : Type 0
HandedOutIsOnMedium = (whole_from sectors : ℕ) (history : List Happening) (first last : Scene) → first.handle ≡ None
    → AreOnMedium whole_from sectors first.handed first.medium → AllHappen sectors history first last
    → AreOnMedium whole_from sectors last.handed last.medium

-- What it means at least that outputs are on a medium: whatever a loss of power leaves has events whose outputs these
-- are a part of, each at a place of its own, with as many before it and after it at least as were handed out.
abbrev pub OnMediumIsHeld : Type 0
OnMediumIsHeld = (whole_from sectors : ℕ) (handed : List EtcsOutput) (medium : Platter) → AreOnMedium whole_from sectors handed medium
    → (durable : List Event)
    × ((before after : List EtcsOutput) (output : EtcsOutput) → handed ≡ before ++ output ∷ after
    → (front : List EtcsOutput) × (back : List EtcsOutput) × (map description_of (pairs_of durable) ≡ front ++ output ∷ back)
    × (length before ≤ length front) × (length after ≤ length back))
    × ((image : ℕ → List ℕ) → IsImage medium image
    → (all : List Event) × (more : List Event) × (all ≡ more ++ durable) × Describes whole_from sectors all image)
