-- That a train can stop by what a unit releases (SUBSET-026, 3.8 and 3.13; the braking formula: this project's profile).
-- Places are centimetres, speeds metres per hour. Lists of events have the newest first, over any number of lives.
--
-- They take for granted that the true front isn't beyond the maximum safe front, that the brakes do what the train data
-- say, and that the gradients are those of the track. They speak of a train that begins to brake at the released limit
-- or below, where its front is after the event, and not of one that is faster or that brakes later.
use Rattle.std.specs.Prelude.{ℕ, ◌≡◌, ◌≤◌, List, ◌∷◌, ◌++◌, length}
use Rattle.authority.specs.declared.answers.End.{End}
use Rattle.driver.specs.Limits.{Train}
use Rattle.events.specs.declared.input.Event.{Event}
use Rattle.events.specs.declared.output.Brake.TheVariants as brake
use Rattle.driver.specs.Laws.{HasTripped}
use Rattle.kernel.specs.Laws.{all_deeds}
use Rattle.kernel.specs.Lives.{life_of}
use Rattle.mode_control.specs.Life.{Life}
use Rattle.onboard.specs.declared.released.Released.{Released}
use Rattle.whole_lives.specs.Chains.{StandsIn}
use Rattle.unit_start.specs.Events.{pairs_of}
use Rattle.safety_laws.specs.Stopping.{IsSupervised, IsBraking, front_of, gradient_along, square_at}

-- a pair of a number and an output was released of an event: that of its number, after those before it
pub record IsOf (pair : Released) (events : List Event) : Type 0 where
  pub later : List Event
  pub event : Event
  pub earlier : List Event
  pub in_turn : events ≡ later ++ event ∷ earlier
  pub number : pair.number ≡ length earlier

-- a life as the event left it
abbrev pub life_at : (pair : Released) (events : List Event) → IsOf pair events → Life
life_at pair events position = life_of (position.event ∷ position.earlier)

-- .. in which a train that brakes from a speed up to a limit stands at the supervised location at the latest
abbrev pub Halts : ℕ → Life → Type 0
Halts limit life = (train : Train) (end : End) (speed : ℕ) (square : ℕ → ℕ) → IsSupervised life train end → end.speed ≡ 0 → speed ≤ limit →
    IsBraking (front_of life) (gradient_along life) train.brakes speed square → square_at life square end.location ≡ 0

-- each output that stands among those released of some events is of one of these, and its limit is such a one
abbrev pub ReleasedHalts : Type 0
ReleasedHalts = (events : List Event) (pair : Released) → StandsIn pair (pairs_of events) →
    (position : IsOf pair events) × Halts pair.output.limit (life_at pair events position)

-- .. and it commands the emergency brake, where a trip that was entered by then in any life isn't acknowledged
abbrev pub ReleasedBrakesForTrips : Type 0
ReleasedBrakesForTrips = (events : List Event) (pair : Released) → StandsIn pair (pairs_of events) →
    (position : IsOf pair events) × (HasTripped (all_deeds (position.event ∷ position.earlier)) → pair.output.brake ≡ brake.Emergency)
