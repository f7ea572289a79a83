-- A train that comes nearer to what lies ahead, and the greatest speed from which it can brake for what it met so far
-- (this project's profile). Places are centimetres, speeds metres per hour.
use Rattle.std.specs.Prelude.{ℕ, ◌≡◌, true, ℤ, ◌≤ℤ◌, Option, List, IfSome}
use Rattle.brakes.specs.declared.brakes.Brakes.{Brakes}
use Rattle.braking.specs.declared.target.Target.{Target}
use Rattle.braking.specs.declared.summed.Summed.{Summed}
use Rattle.braking.specs.Braking.{fits, fits_all, greatest, IsSummed}

-- a train's maximum safe front, the gradients, what is known of its brakes, and the speed so far
pub record Course (G : Type 0) : Type 0 where
  pub front : ℤ
  pub gradient : G
  pub brakes : Brakes
  pub speed : ℕ

-- .. with another speed
abbrev pub at_speed : {G : Type 0} → Course G → ℕ → Course G
at_speed course speed = record { front = course.front; gradient = course.gradient; brakes = course.brakes; speed = speed }

-- the greatest speed up to the one so far that fits a target too
abbrev pub lowered : {G : Type 0} → (ℤ → Option ℤ) → Target → Course G → Course G
lowered gradient target course = at_speed course (greatest (fits course.front gradient course.brakes target) course.speed)

-- .. that fits each of some targets
abbrev pub lowered_by : {G : Type 0} → (ℤ → Option ℤ) → List Target → Course G → Course G
lowered_by gradient targets course =
    at_speed course (greatest (fits_all course.front gradient course.brakes targets) course.speed)

-- a speed fits each target from a place on, where one is known
abbrev pub IsStop : ℤ → (ℤ → Option ℤ) → Brakes → ℕ → Option ℤ → Type 0
IsStop front gradient brakes speed stop =
    IfSome stop (λ place. (target : Target) → place ≤ℤ target.place → fits front gradient brakes target speed ≡ true)

-- what is known on the way: what a stretch takes off, and where the train can stop
pub record IsKnown (front : ℤ) (gradient : ℤ → Option ℤ) (brakes : Brakes) (speed : ℕ) (summed : Summed) (stop : Option ℤ) : Type 0 where
  pub sum : IsSummed gradient brakes.deceleration summed
  pub fitting : IsStop front gradient brakes speed stop
