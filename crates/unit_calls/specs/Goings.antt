-- What going on with a power-up leaves in its handle (this project's profile).
use Rattle.std.specs.Prelude.{◌≡◌, ℕ, ◌<◌, ◌≤◌, List, Option, Some, None, Result, Ok, Err, IfOk, IfErr, false}
use Rattle.disk.specs.State.{contents_of}
use Rattle.unit_start.specs.Answers.{is_device, wants_memory}
use Rattle.unit_start.specs.PowersUp.{IsFresh, IsAnswerTo}
use Rattle.unit_start.specs.Releases.{nothing_released}
use Rattle.unit_start.specs.declared.errors.OpenError.{OpenError}
use Rattle.unit_start.specs.declared.errors.OpenError.TheVariants as an_open
use Rattle.relayed_unit.specs.Goings.{OnWants, OnOpen, OnAnswer}
use Rattle.relayed_unit.specs.Openings.{Opening, medium_state, still_needed, IsGoing, IsWanted, IsFurther}
use Rattle.relayed_unit.specs.Relayed.{WantsNothing}
use Rattle.relayed_unit.specs.declared.powering_up.Going.{Going}
use Rattle.relayed_unit.specs.declared.powering_up.Going.TheVariants as a_going
use Rattle.unit_calls.specs.PowerUps.{before_any, IsUp}
use Rattle.unit_calls.specs.Statuses.{of_open}
use Rattle.unit_calls.specs.declared.handle.Content.{Content}
use Rattle.unit_calls.specs.declared.handle.Content.TheVariants as a_content
use Rattle.unit_calls.specs.declared.status.Status.{Status}
use Rattle.unit_calls.specs.declared.status.Status.TheVariants as a_status

-- what `UnitOpening::go_on` promises of an answer
pub record IsGoneOn (before : Opening) (reported : Result Going OpenError) : Type 0 where
  -- a sector of the next step is wanted, that the medium has, and that isn't known
  pub wanted : IfOk reported (λ g. OnWants g (λ current. (s : ℕ) × IsWanted current s))
  -- it goes on over the same medium
  pub going : (medium : List ℕ) → IsGoing medium before → IfOk reported (λ g. OnWants g (IsGoing medium))
  pub same : IfOk reported (λ g. OnWants g (λ current. (current.disk.sectors ≡ before.disk.sectors) × (current.cold ≡ before.cold)))
  -- while a sector is wanted some are needed, and no more of them than before
  pub nearer : IfOk reported (λ g. OnWants g (λ current. (0 < still_needed current) × (still_needed current ≤ still_needed before)))
  -- what was found of the slots is never given up
  pub further : IfOk reported (λ g. OnWants g (λ current. IsFurther before.scan current.scan))
  -- nothing is pending, there is no moment yet, and no flush failed
  pub fresh_unit : IfOk reported (λ g. OnOpen g (λ u. IsFresh u.moored.unit))
  -- a unit that came of it wants no sector
  pub wants_nothing : IfOk reported (λ g. OnOpen g (λ u. WantsNothing u.moored))
  -- the unit was powered up over a disk that holds what the medium held
  pub up : (medium : List ℕ) → IsGoing medium before →
      IfOk reported (λ g. OnOpen g (IsUp (before_any medium before.disk.sectors) before.cold))
  -- no fault of the device comes of it
  pub no_device : IfErr reported (λ e. is_device e ≡ false)
  -- it wants no memory
  pub memory : IfErr reported (λ e. wants_memory e ≡ false)
  -- each refusal has its cause on the medium, and each cause its refusal
  pub answers : (medium : List ℕ) → IsGoing medium before →
      OnAnswer reported (IsAnswerTo before.disk.sectors (contents_of (medium_state medium before.disk.sectors)))
  -- a medium of no sector isn't formatted
  pub none : before.disk.sectors ≡ 0 → reported ≡ Err an_open.NotFormatted

-- the power-up that goes on is in the handle, or the unit that came of it, which released nothing yet; else nothing is
abbrev pub IsLeftOn : Result Going OpenError → Option Content → Status → Type 0
IsLeftOn (Ok (a_going.Wants current)) after status = (status ≡ a_status.Done) × (after ≡ Some (a_content.PowerUp current))
IsLeftOn (Ok (a_going.Open up)) after status =
    (status ≡ a_status.Done) × (after ≡ Some (a_content.Unit (record { unit = up; last = nothing_released })))
IsLeftOn (Err e) after status = (status ≡ of_open e) × (after ≡ None)

-- a power-up goes on
abbrev pub GoesOn : Opening → Option Content → Status → Type 0
GoesOn before after status = (reported : Result Going OpenError) × IsGoneOn before reported × IsLeftOn reported after status

-- the power-up of a handle goes on
abbrev pub Resumes : Option Content → Option Content → Status → Type 0
Resumes (Some (a_content.PowerUp opening)) after status = GoesOn opening after status
Resumes before after status = Unit {0}
