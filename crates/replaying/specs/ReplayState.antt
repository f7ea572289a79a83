-- What contracts see of a life that is run again (this project's profile). A moment is in milliseconds.
use Rattle.std.specs.Prelude.{◌≡◌, ℕ, ◌-◌, ◌^◌, min, ℤ}
use Rattle.kernel.specs.Lives.{Story, past_at, number_at}
use Rattle.kernel.specs.StandsFor.{Knowledge}
use Rattle.unit_start.specs.Events.{moment_of, KnowsAt}
use Rattle.speed_profile.specs.declared.reported.CategorySpeeds.{CategorySpeeds}
use Rattle.track_store.specs.Segments.{Segmented}

-- what the kernel knows, how many events there were, up to the greatest number of 64 bits, and the last moment of the
-- life
pub record ReplayState : Type 0 where
  pub state : Knowledge (Segmented ℤ) (Segmented CategorySpeeds)
  pub events : ℕ
  pub moment : ℕ

-- it represents a story
pub record StandsAfter (at : Story) (replay : ReplayState) : Type 0 where
  pub knows : KnowsAt replay.state (past_at at)
  pub counted : replay.events ≡ min (number_at at) (2 ^ 64 - 1)
  pub moment_is : replay.moment ≡ moment_of at.events
