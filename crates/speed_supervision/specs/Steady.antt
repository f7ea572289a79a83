-- A limit that stays the same while the train moves on within a window (this project's profile; SUBSET-026, 3.11 and
-- 3.13). Places are centimetres, speeds metres per hour.
use Rattle.std.specs.Prelude.{◌≡◌, ℕ, ◌≤ℤ◌, false}
use Rattle.std.specs.Option.{option_map_or}
use Rattle.units.specs.Stretches.{Span}
use Rattle.driver.specs.declared.datum.Datum.TheVariants.{Valid}
use Rattle.driver.specs.Limits.{Train}
use Rattle.track_picture.specs.History.{gradients_of}
use Rattle.track_picture.specs.Sentences.{forgetting_mark}
use Rattle.mode_control.specs.Conditions.{is_beyond}
use Rattle.mode_control.specs.History.{tracks}
use Rattle.mode_control.specs.Life.{Life, driver_of}
use Rattle.mode_control.specs.Sentences.{values_of}
use Rattle.speed_supervision.specs.declared.steady.SteadyLimit.{SteadyLimit}
use Rattle.speed_supervision.specs.Limit.{bounds_of, in_areas, along}
use Rattle.speed_supervision.specs.Supervised.{permitted_on}
use Rattle.speed_supervision.specs.Targets.{Journey}

-- a stretch covers another one, and its front may be wherever that of the other one may be
abbrev pub Covers : Span → Span → Type 0
Covers wide narrow = (wide.rear ≤ℤ narrow.rear) × (wide.min_front ≤ℤ narrow.min_front) × (narrow.max_front ≤ℤ wide.max_front)

-- a train is within the window
abbrev pub IsWithin : SteadyLimit → Span → Type 0
IsWithin steady train = Covers steady.widest train × Covers train steady.narrowest

-- .. before the end of authority, if a speed isn't allowed there, and what is forgotten of the track lies no farther on than
-- the window; the least that the train covers there is ordered
pub record IsAbout (steady : SteadyLimit) (train : Span) : Type 0 where
  pub within : IsWithin steady train
  pub before_end : option_map_or (is_beyond train.min_front) steady.bounds.end false ≡ false
  pub near : forgetting_mark train ≤ℤ steady.widest.rear
  pub ordered : steady.narrowest.rear ≤ℤ steady.narrowest.max_front

-- the bounds, brakes and national speeds for which it is steady are those of a life
pub record IsFor (steady : SteadyLimit) (life : Life) : Type 0 where
  pub train : Train
  pub valid : (driver_of life).train_data ≡ Valid train
  pub bounds : steady.bounds ≡ bounds_of life train
  pub brakes : steady.brakes ≡ train.brakes
  pub national : steady.national ≡ in_areas (values_of life)

-- the journey of a train that is somewhere on the track of a life, with the bounds, brakes and national speeds for which
-- the limit is steady
abbrev pub journey_of : SteadyLimit → Life → Span → Journey
journey_of steady life train = record {
  front = train.max_front;
  bounds = steady.bounds;
  track = record (along life) { national = steady.national };
  gradient = (gradients_of (tracks life.entries)).value;
  brakes = steady.brakes;
}

-- wherever the train is within the window, its permitted speed is this limit, whatever the national release speed is
abbrev pub IsSteady : SteadyLimit → Life → Type 0
IsSteady steady life = (train : Span) (national : ℕ) → IsWithin steady train → permitted_on train (journey_of steady life train) national ≡ steady.limit

-- wherever a train on a journey is between two stretches, its permitted speed is a limit
abbrev pub HoldsBetween : Span → Span → Journey → ℕ → Type 0
HoldsBetween widest narrowest journey limit =
    (train : Span) (national : ℕ) → Covers widest train → Covers train narrowest →
    permitted_on train (record journey { front = train.max_front }) national ≡ limit
