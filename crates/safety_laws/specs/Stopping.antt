-- That a train can stop where it has to, and slow down where it has to: over every course of a train that brakes (the
-- braking formula: this project's profile). Places are centimetres, speeds metres per hour, decelerations cm/s^2. A
-- square of a speed falls by 2,592 times the deceleration in each centimetre, since 1 cm/s is 36 m/h.
--
-- They speak of a train that begins to brake at the answered limit or below. Between the limit and the margins of the
-- brake table nothing brakes, and they say nothing of a train that is faster. They take for granted that the true front
-- isn't beyond the maximum safe front, and that brakes and gradients are those that were entered and reported.
use Rattle.std.specs.Prelude.{ℕ, suc, ◌≡◌, ◌≤◌, ◌<◌, ◌+◌, ◌-◌, ◌*◌, ℤ, pos, ◌+ℤ◌, ◌-ℤ◌, ◌<ℤ◌, ◌≤ℤ◌, Option, Some, None, IsTrue}
use Rattle.areas.specs.declared.area.Area.{Area}
use Rattle.areas.specs.Areas.{speed_in}
use Rattle.authority.specs.Authority.{end_of}
use Rattle.authority.specs.Laws.{IsAmong}
use Rattle.authority.specs.declared.answers.End.{End}
use Rattle.brakes.specs.declared.brakes.Brakes.{Brakes}
use Rattle.brakes.specs.Brakes.{slowing_on, reaction_way}
use Rattle.braking.specs.Braking.{fits}
use Rattle.driver.specs.declared.datum.Datum.TheVariants.{Valid}
use Rattle.driver.specs.Limits.{Train}
use Rattle.mode_table.specs.Modes.{is_one_of}
use Rattle.track_store.specs.declared.restriction.Restriction.{Restriction}
use Rattle.track_store.specs.Covering.{covers}
use Rattle.speed_profile.specs.Ahead.{greatest_place, is_inside}
use Rattle.speed_profile.specs.declared.reported.CategorySpeeds.{CategorySpeeds}
use Rattle.speed_profile.specs.Reported.{speed_of}
use Rattle.units.specs.Stretches.{natural}
use Rattle.track_picture.specs.History.{authorities, gradients_of}
use Rattle.mode_control.specs.History.{tracks, mode_of}
use Rattle.mode_control.specs.Life.{Life, driver_of}
use Rattle.mode_control.specs.Sentences.{values_of, span_of}
use Rattle.speed_supervision.specs.Limit.{limit, along, release_speed}
use Rattle.safety_laws.specs.Running.{modes_by_authority}

-- ---- what is supervised: a life in Full Supervision or On Sight, by the data of a train and the end of an authority

pub record IsSupervised (life : Life) (train : Train) (end : End) : Type 0 where
  pub by_data : (driver_of life).train_data ≡ Valid train
  pub in_mode : IsTrue (is_one_of modes_by_authority (mode_of life.entries))
  pub by_authority : end_of (authorities (tracks life.entries)) ≡ Some end

-- the greatest place at which its front may be, and the gradient of each centimetre
abbrev pub front_of : Life → ℤ
front_of life = (span_of life).max_front

abbrev pub gradient_along : Life → ℤ → Option ℤ
gradient_along life = (gradients_of (tracks life.entries)).value

-- ---- a course of a train that brakes: the square of its speed at each centimetre from its greatest front on, where the
-- brake is ordered at a speed. It doesn't rise, and after the way of the reaction each centimetre takes off what the
-- brakes are known to, or all

pub record IsBraking (front : ℤ) (gradient : ℤ → Option ℤ) (brakes : Brakes) (speed : ℕ) (square : ℕ → ℕ) : Type 0 where
  pub starts : square 0 ≤ speed * speed
  pub falls : (n : ℕ) → square (suc n) ≤ square n
  pub slowed : (n : ℕ) → reaction_way brakes.reaction speed ≤ n →
      square (suc n) ≤ square n - 2592 * slowing_on brakes.deceleration (gradient (front +ℤ pos n))

-- .. in a life, from a speed up to the limit
pub record BrakesFromLimit (life : Life) (train : Train) (square : ℕ → ℕ) : Type 0 where
  pub speed : ℕ
  pub within : speed ≤ limit life
  pub run : IsBraking (front_of life) (gradient_along life) train.brakes speed square

-- the square of the speed at a place
abbrev pub square_at : Life → (ℕ → ℕ) → ℤ → ℕ
square_at life square place = square (natural (place -ℤ front_of life))

-- ---- the end of the authority, while no speed is allowed there (V_LOA)

-- a train at the limit can still stop at the supervised location, by the formula
abbrev pub StopsAtLocation : Type 0
StopsAtLocation = (life : Life) (train : Train) (end : End) → IsSupervised life train end → end.speed ≡ 0 →
    IsTrue (fits (front_of life) (gradient_along life) train.brakes (record { place = end.location; speed = 0 }) (limit life))

-- one that brakes stands at the supervised location at the latest
abbrev pub HaltsAtLocation : Type 0
HaltsAtLocation = (life : Life) (train : Train) (end : End) (square : ℕ → ℕ) → IsSupervised life train end → end.speed ≡ 0 →
    BrakesFromLimit life train square → square_at life square end.location ≡ 0

-- .. and where there is no release speed, at the end of the authority
abbrev pub HaltsAtEnd : Type 0
HaltsAtEnd = (life : Life) (train : Train) (end : End) (square : ℕ → ℕ) → IsSupervised life train end → end.speed ≡ 0 →
    release_speed end.release (values_of life).release ≡ 0 →
    BrakesFromLimit life train square → square_at life square end.place ≡ 0

-- ---- each speed that the track ahead asks for: of the static speeds for its category, of the restrictions in force and
-- of the mode areas. A centimetre before the end without a static speed asks for a stop

pub record KeepsTrackSpeeds (life : Life) (train : Train) (square : ℕ → ℕ) (place : ℤ) : Type 0 where
  pub static : (speeds : CategorySpeeds) → (along life).static place ≡ Some speeds →
      square_at life square place ≤ speed_of speeds train.category * speed_of speeds train.category
  pub unknown : (end : End) → end_of (authorities (tracks life.entries)) ≡ Some end → place <ℤ end.place →
      (along life).static place ≡ None → square_at life square place ≡ 0
  pub restricted : (restriction : Restriction) → IsAmong restriction (along life).restrictions.restrictions →
      IsTrue (covers (along life).restrictions.mark place restriction) →
      square_at life square place ≤ restriction.speed * restriction.speed
  pub in_area : (area : Area) → IsAmong area (along life).areas → IsTrue (is_inside place area) →
      square_at life square place ≤ speed_in (along life).national area * speed_in (along life).national area

-- a train that brakes meets none of them faster, whatever speed is allowed at the end of the authority
abbrev pub KeepsSpeedsAhead : Type 0
KeepsSpeedsAhead = (life : Life) (train : Train) (end : End) (square : ℕ → ℕ) → IsSupervised life train end →
    BrakesFromLimit life train square →
    (place : ℤ) → front_of life <ℤ place → place ≤ℤ greatest_place → KeepsTrackSpeeds life train square place

-- ---- above the limit: what the brake table commands at a margin, the brakes do later and from a higher speed

-- what the brakes take off between the front and a place ahead lies between two decelerations at each centimetre
pub record IsBetween (front : ℤ) (gradient : ℤ → Option ℤ) (brakes : Brakes) (way least most : ℕ) : Type 0 where
  pub at_least : (n : ℕ) → n < way → least ≤ slowing_on brakes.deceleration (gradient (front +ℤ pos n))
  pub at_most : (n : ℕ) → n < way → slowing_on brakes.deceleration (gradient (front +ℤ pos n)) ≤ most

-- how much later the brakes act at a margin above a speed
abbrev pub later_by : Brakes → ℕ → ℕ → ℕ
later_by brakes speed margin = reaction_way brakes.reaction (speed + margin) - reaction_way brakes.reaction speed

-- a train that brakes from a margin above the limit passes the supervised location by so many centimetres at the most:
-- those that its reaction takes longer, and beyond these as many as take off the margin
abbrev pub PassesByAtMost : Type 0
PassesByAtMost = (life : Life) (train : Train) (end : End) (margin speed least most beyond : ℕ) (square : ℕ → ℕ) →
    IsSupervised life train end → end.speed ≡ 0 →
    speed ≤ limit life + margin → IsBraking (front_of life) (gradient_along life) train.brakes speed square →
    (let later = later_by train.brakes (limit life) margin in
    let way = natural (end.location -ℤ front_of life) + later + beyond in
    IsBetween (front_of life) (gradient_along life) train.brakes way least most →
    2 * limit life * margin + margin * margin + 2592 * most * later ≤ 2592 * least * (later + beyond) →
    square way ≡ 0)
