-- Any number of lives, one after another (this project's profile). Lists of events have the newest first; lists of
-- releases, of steps and of lives have the oldest first. Outputs have the numbers of their events, counted from 0 over
-- all lives. Moments are those of the disk's clock.

-- Taken for granted: each life meets its contract (`lived`), on a disk that was ready for it, and nothing but the lives
-- writes to the disk.
use Rattle.std.specs.Prelude.{◌≡◌, ◌⊎◌, ℕ, ◌≤◌, List, [], ◌∷◌, ◌++◌}
use Rattle.disk.specs.State.{State}
use Rattle.events.specs.declared.input.Event.{Event}
use Rattle.events.specs.declared.input.Event.TheVariants.{PowerUp}
use Rattle.events.specs.declared.step.Step.{Step}
use Rattle.mode_table.specs.declared.statuses.Cold.{Cold}
use Rattle.onboard.specs.declared.released.Released.{Released}
use Rattle.unit_start.specs.Events.{pairs_of}
use Rattle.unit_start.specs.Lives.{IsReady}
use Rattle.whole_lives.specs.Runs.{NothingReleased, IsOfLife, Reached, Lives, IsCut}

-- A life released these by a moment: none yet, or what some first of its steps released that were done by then.
abbrev pub IsReleasedBy : ℕ → List Event → List Event → List Event → Cold → List Step → State → State → List Released → ℕ → List Released → Type 0
IsReleasedBy whole_from durable accepted found power_up_cold steps old new released moment released_by_then = NothingReleased released_by_then ⊎ ((first_steps : List Step)
    × (so : Reached whole_from (IsOfLife whole_from old.sectors durable accepted found power_up_cold first_steps) (PowerUp power_up_cold ∷ found) steps first_steps old new released)
    × (so.moment ≤ moment) × (released_by_then ≡ so.released_by_then))

-- Power was lost at some moment of a life, and these were released by then; or the life handed its disk back, and these
-- are all that it released.
abbrev pub IsLeftWith : ℕ → List Event → List Event → List Event → Cold → List Step → (old new next : State) → List Released → List Released → Type 0
IsLeftWith whole_from durable accepted found power_up_cold steps old new next released released_by_then =
    ((cut : IsCut old new next) × IsReleasedBy whole_from durable accepted found power_up_cold steps old new released cut.moment released_by_then)
    ⊎ ((next ≡ new) × (released_by_then ≡ released))

-- One life of several.
pub record OneLife : Type 0 where
  -- the cold movement value that was handed in
  pub cold : Cold
  -- its steps, the first one first
  pub steps : List Step
  -- the disk at its start
  pub old : State
  -- the disk at its end
  pub new : State
  -- the caller's list of releases at its start, the oldest first
  pub out_before : List Released
  -- the caller's list of releases at its end, the oldest first
  pub out_after : List Released
  -- the disk that the next life finds, after power was lost at some moment of this one, or as it was handed back
  pub next : State
  -- what this life released until then, the oldest first
  pub released_by_then : List Released
  -- its contract: for all events, the newest first, that its disk was ready for, it is a life, and left that disk
  pub lived : (whole_from : ℕ) (durable accepted : List Event) → IsReady whole_from durable accepted old → (found : List Event) × (power_up_cold : Cold)
      × (whole_life : Lives whole_from durable accepted found cold power_up_cold steps old new out_before out_after)
      × IsLeftWith whole_from durable accepted found power_up_cold steps old new next whole_life.released released_by_then

-- each life begins on the disk that is found after the one before it
abbrev pub Follow : State → List OneLife → State → Type 0
Follow first [] last = first ≡ last
Follow first (life ∷ lives) last = (first ≡ life.old) × Follow life.next lives last

-- a pair is in a list
abbrev pub StandsIn : Released → List Released → Type 0
StandsIn pair pairs = (before : List Released) × (after : List Released) × (pairs ≡ before ++ pair ∷ after)

-- all that these lives released is, at its number, the output of the event that the list has there
abbrev pub AllStand : List Event → List OneLife → Type 0
AllStand events [] = Unit {0}
AllStand events (life ∷ lives) = ((pair : Released) → StandsIn pair life.released_by_then → StandsIn pair (pairs_of events)) × AllStand events lives

-- Whatever lives follow one another, each wherever it is cut or as it hands its disk back: the disk that is found last
-- is ready for a next one, its list goes on from the first one, and it has all that was ever released.
abbrev pub AnyNumberOfLives : Type 0
AnyNumberOfLives = (whole_from : ℕ) (durable accepted : List Event) (first last : State) (lives : List OneLife) → IsReady whole_from durable accepted first → Follow first lives last
    → (last_durable : List Event) × (last_accepted : List Event) × IsReady whole_from last_durable last_accepted last × AllStand last_durable lives
    × (more : List Event) × (last_durable ≡ more ++ durable)
