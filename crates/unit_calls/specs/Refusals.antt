-- Why actions of the driver wouldn't be accepted, as C gets it (this project's profile). Lists of events have the newest
-- first.
use Rattle.std.specs.Prelude.{◌≡◌, ℕ, List, [], ◌∷◌, map, Option, Some, None}
use Rattle.driver.specs.Accepting.{refusal}
use Rattle.driver.specs.Limits.{Train}
use Rattle.driver.specs.declared.action.Action.{Action}
use Rattle.driver.specs.declared.action.Action.TheVariants.{EnterIdentity, EnterRunningNumber, EnterTrainData}
use Rattle.driver.specs.declared.action_refusal.ActionRefusal.{ActionRefusal}
use Rattle.driver.specs.declared.action_refusal.ActionRefusal.TheVariants as a_refusal
use Rattle.events.specs.declared.input.Event.{Event}
use Rattle.kernel.specs.Lives.{life_of}
use Rattle.mode_control.specs.Life.{Life, driver_of}
use Rattle.mode_control.specs.Sentences.{situation}
use Rattle.unit_start.specs.Events.{IsAhead}
use Rattle.unit_calls.specs.Inputs.{action_by}
use Rattle.unit_calls.specs.declared.handle.Opened.{Opened}
use Rattle.unit_calls.specs.declared.refusals.EtcsUnitRefusals.{EtcsUnitRefusals}
use Rattle.unit_calls.specs.declared.status.Status.{Status}
use Rattle.unit_calls.specs.declared.status.Status.TheVariants as a_status

-- the first condition of an action that fails; 0 where none does
abbrev pub refusal_number : Option ActionRefusal → ℕ
refusal_number None = 0
refusal_number (Some a_refusal.OtherMode) = 1
refusal_number (Some a_refusal.NotAtStandstill) = 2
refusal_number (Some a_refusal.TooFast) = 3
refusal_number (Some a_refusal.NothingToConfirm) = 4
refusal_number (Some a_refusal.IdentityNotValid) = 5
refusal_number (Some a_refusal.LevelNotValid) = 6
refusal_number (Some a_refusal.TripOutstanding) = 7
refusal_number (Some a_refusal.TrainDataNotValid) = 8
refusal_number (Some a_refusal.NoTrip) = 9
refusal_number (Some a_refusal.NotRequested) = 10

-- why an action wouldn't be accepted as the next event of a life; 0 where it would, or where there is none
abbrev pub reason : Life → Option Action → ℕ
reason life None = 0
reason life (Some action) = refusal_number (refusal (driver_of life) (situation life) action)

-- that of each action without values, at the place of its number
abbrev pub reasons : Life → List ℕ
reasons life = map (λ number. reason life (action_by number))
    (0 ∷ 1 ∷ 2 ∷ 3 ∷ 4 ∷ 5 ∷ 6 ∷ 7 ∷ 8 ∷ 9 ∷ 10 ∷ 11 ∷ 12 ∷ 13 ∷ 14 ∷ 15 ∷ [])

-- what is reported after these events
pub record DescribesRefusals (events : List Event) (reported : EtcsUnitRefusals) : Type 0 where
  -- each action of the driver, as the next event
  pub actions : reported.actions ≡ reasons (life_of events)
  -- an entry, whatever is entered
  pub identity : (text : List ℕ) → reported.identity ≡ reason (life_of events) (Some (EnterIdentity text))
  pub running_number : (number : ℕ) → reported.running_number ≡ reason (life_of events) (Some (EnterRunningNumber number))
  pub train_data : (train : Train) → reported.train_data ≡ reason (life_of events) (Some (EnterTrainData train))

-- after all accepted events
abbrev pub ReportsRefusals : Opened → EtcsUnitRefusals → Status → Type 0
ReportsRefusals opened reported status = (status ≡ a_status.Done)
    × ((durable accepted : List Event) → IsAhead durable accepted opened.unit.moored.unit.life → DescribesRefusals accepted reported)
