-- What is known of what the brakes take off before a target (this project's profile). Places are centimetres, speeds
-- metres per hour.
use Rattle.std.specs.Prelude.{◌≡◌, ℕ, ◌+◌, ◌-◌, ◌*◌, ◌<◌, ◌≤◌, ◌^◌, ℤ, pos, ◌+ℤ◌, ◌-ℤ◌, ◌≤ℤ◌, ◌<ℤ◌, ◌⊎◌, Option}
use Rattle.std.specs.Int.{int_min, int_max}
use Rattle.units.specs.Stretches.{natural}
use Rattle.brakes.specs.declared.brakes.Brakes.{Brakes}
use Rattle.braking.specs.declared.target.Target.{Target}
use Rattle.braking.specs.declared.summed.Summed.{Summed}
use Rattle.braking.specs.declared.stretch.Stretch.{Stretch}
use Rattle.brakes.specs.Brakes.{slowing_on, reaction_way}
use Rattle.braking.specs.Braking.{IsSummed}

-- a stretch begins where the brakes act at a speed, and ends at a target, or before it where it takes off enough
pub record IsSummedBefore (front : ℤ) (gradient : ℤ → Option ℤ) (brakes : Brakes) (target : Target) (speed : ℕ) (sum : Summed) : Type 0 where
  pub summed : IsSummed gradient brakes.deceleration sum
  pub from : sum.from ≡ front +ℤ pos (reaction_way brakes.reaction speed)
  pub to : sum.to ≤ℤ target.place
  pub reached : (sum.to ≡ target.place) ⊎ ((speed * speed - target.speed * target.speed) ≤ sum.taken_off)
  pub small : sum.taken_off < 2 ^ 64 - 2 ^ 62

-- a stretch begins where the brakes act at a speed, if that is before a target, and ends at the target
pub record IsSummedWhole (front : ℤ) (gradient : ℤ → Option ℤ) (brakes : Brakes) (target : Target) (speed : ℕ) (sum : Summed) : Type 0 where
  pub summed : IsSummed gradient brakes.deceleration sum
  pub from : sum.from ≡ int_min (front +ℤ pos (reaction_way brakes.reaction speed)) target.place
  pub to : sum.to ≡ target.place
  pub small : sum.taken_off < 2 ^ 64 - 2 ^ 62

-- the greatest number up to a limit whose square is that of a speed and so much at most
pub record IsRoot (speed taken_off limit root : ℕ) : Type 0 where
  pub within : root ≤ limit
  pub below : root * root ≤ speed * speed + taken_off
  pub next : root < limit → speed * speed + taken_off < (root + 1) * (root + 1)

-- what a stretch takes off from where the brakes act at a speed, or after that, is enough for a stop
pub record IsStopping (front : ℤ) (reaction speed : ℕ) (sum : Summed) : Type 0 where
  pub acts : (front +ℤ pos (reaction_way reaction speed)) ≤ℤ sum.from
  pub enough : speed * speed ≤ sum.taken_off

-- a stretch with one deceleration, up to where a sum begins, takes off little enough to be added to it
pub record IsEvenBefore (slowing : ℕ) (from : ℤ) (sum : Summed) : Type 0 where
  pub small : slowing ≤ 549
  pub ordered : from ≤ℤ sum.from
  pub little : 2592 * slowing * natural (sum.from -ℤ from) + sum.taken_off < 2 ^ 64 - 2 ^ 62

-- a sum is begun on such a stretch
pub record StartsEvenly (slowing : ℕ) (sum initial : Summed) : Type 0 where
  pub ordered : initial.from ≤ℤ sum.from
  pub to : initial.to ≡ sum.to
  pub taken_off : initial.taken_off ≡ 2592 * slowing * natural (sum.from -ℤ initial.from) + sum.taken_off

-- a stretch with one gradient lies before what is summed, and what both take off is summed too
pub record IsStretch (gradient : ℤ → Option ℤ) (deceleration : ℕ) (stretch : Stretch) : Type 0 where
  pub earlier : IsSummed gradient deceleration stretch.sum
  pub even : (place : ℤ) → stretch.initial.from ≤ℤ place → place <ℤ stretch.sum.from → slowing_on deceleration (gradient place) ≡ stretch.slowing
  pub before : stretch.initial.from <ℤ stretch.sum.from
  pub may_begin : IsEvenBefore stretch.slowing stretch.initial.from stretch.sum
  pub initial : StartsEvenly stretch.slowing stretch.sum stretch.initial
  pub summed : IsSummed gradient deceleration stretch.initial

-- the brakes act at a speed before what is summed after a stretch, and from there, or from where the stretch begins,
-- enough is taken off for a target
pub record IsEnough (front : ℤ) (brakes : Brakes) (target : Target) (stretch : Stretch) (speed : ℕ) : Type 0 where
  pub acts : (front +ℤ pos (reaction_way brakes.reaction speed)) <ℤ stretch.sum.from
  pub enough :
      speed * speed
      ≤ target.speed * target.speed
      + (2592 * stretch.slowing * natural (stretch.sum.from -ℤ int_max (front +ℤ pos (reaction_way brakes.reaction speed)) stretch.initial.from)
      + stretch.sum.taken_off)
