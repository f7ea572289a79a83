-- What contracts see of a life that is run again to say why it brakes (this project's profile).
use Rattle.std.specs.Prelude.{◌≡◌, ℕ, ℤ, Option}
use Rattle.events.specs.declared.input.Event.{Event}
use Rattle.events.specs.declared.output.Output.{Output}
use Rattle.kernel.specs.Lives.{Story, onward, past_at}
use Rattle.kernel.specs.Output.{output_at}
use Rattle.kernel.specs.StandsFor.{Knowledge, StandsAt}
use Rattle.speed_profile.specs.declared.reported.CategorySpeeds.{CategorySpeeds}
use Rattle.track_store.specs.Segments.{Segmented}
use Rattle.track_picture.specs.Stores.{segment_stores}
use Rattle.reasons.specs.Closings.{AreGroups}
use Rattle.reasons.specs.declared.closings.GroupsReport.{GroupsReport}
use Rattle.reasons.specs.declared.runs.Runs.{Runs}
use Rattle.reasons.specs.Runs.{number_after, runs_of}
use Rattle.reasons.specs.declared.trips.TripReport.{TripReport}
use Rattle.reasons.specs.Trips.{trip_of}

-- what the kernel knows, the number of the next event, from which event on each cause has held, the trip that is owed,
-- and the groups that the last event closed
pub record Reasoned : Type 0 where
  pub state : Knowledge (Segmented ℤ) (Segmented CategorySpeeds)
  pub next : ℕ
  pub runs : Runs
  pub trip : Option TripReport
  pub groups : GroupsReport

-- it represents a story
pub record Reasons (story : Story) (known : Reasoned) : Type 0 where
  pub knows : StandsAt segment_stores known.state (past_at story)
  pub numbered : known.next ≡ number_after story
  pub runs_are : known.runs ≡ runs_of story
  pub trip_is : known.trip ≡ trip_of story
  pub groups_are : AreGroups story known.groups

-- the kernel's answer to an event, as the next one, and the groups that it closes are known, and nothing else is yet
pub record IsApplied (story : Story) (event : Event) (old new : Reasoned) (output : Output) : Type 0 where
  pub knows : StandsAt segment_stores new.state (past_at (onward story event))
  pub answers : output ≡ output_at (onward story event)
  pub groups_are : AreGroups (onward story event) new.groups
  pub others : new ≡ record old { state = new.state; groups = new.groups }
