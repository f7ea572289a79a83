-- The speeds from which a train can still brake for what lies ahead (this project's profile). Places are in
-- centimetres, speeds in metres per hour, decelerations in cm/s^2, gradients in per mille, uphill positive.
use Rattle.std.specs.Prelude.{◌≡◌, ℕ, zero, suc, ◌≤◌, ◌+◌, ◌-◌, ◌*◌, ℤ, pos, ◌+ℤ◌, ◌-ℤ◌, ◌≤ℤ◌, ◌<ℤ◌, Bool, ◌&&◌, ◌||◌, nat_le, nat_lt, if◌then◌else◌, Option, List}
use Rattle.std.specs.List.{list_all}
use Rattle.units.specs.Stretches.{natural}
use Rattle.brakes.specs.declared.brakes.Brakes.{Brakes}
use Rattle.brakes.specs.Brakes.{slowing_on, reaction_way}
use Rattle.braking.specs.declared.target.Target.{Target}
use Rattle.braking.specs.declared.summed.Summed.{Summed}

-- what so many centimetres from a place on take off the square of the speed: twice the deceleration a centimetre, and
-- 1 cm/s is 36 m/h, whose square is 1296. It doesn't unfold by itself: a way has
-- thousands
unfoldable pub braked : (ℤ → Option ℤ) → ℕ → ℤ → ℕ → ℕ
braked gradient deceleration place zero = 0
braked gradient deceleration place (suc n) =
    2592 * slowing_on deceleration (gradient place) + braked gradient deceleration (place +ℤ pos 1) n

-- what is known of a stretch: what it takes off, which is little enough on each centimetre to add up
abbrev pub IsSummed : (ℤ → Option ℤ) → ℕ → Summed → Type 0
IsSummed gradient deceleration summed =
    (summed.from ≤ℤ summed.to)
    × (summed.taken_off ≡ braked gradient deceleration summed.from (natural (summed.to -ℤ summed.from)))
    × ((place : ℤ) → summed.from ≤ℤ place → place <ℤ summed.to → slowing_on deceleration (gradient place) ≤ 549)

-- how far a target lies ahead of the front
abbrev pub distance_to : ℤ → Target → ℕ
distance_to front target = natural (target.place -ℤ front)

-- a speed fits a target: it is no greater than the target's, or the brakes act before the target and take off enough
abbrev pub fits : ℤ → (ℤ → Option ℤ) → Brakes → Target → ℕ → Bool
fits front gradient brakes target speed =
    let way = reaction_way brakes.reaction speed in
    nat_le speed target.speed
    || (nat_lt way (distance_to front target)
    && nat_le (speed * speed)
    (target.speed * target.speed + braked gradient brakes.deceleration (front +ℤ pos way) (distance_to front target - way)))

abbrev pub fits_all : ℤ → (ℤ → Option ℤ) → Brakes → List Target → ℕ → Bool
fits_all front gradient brakes targets speed = list_all (λ target. fits front gradient brakes target speed) targets

-- the greatest number up to another that passes a test, and 0 where none does
unfoldable pub greatest : (ℕ → Bool) → ℕ → ℕ
greatest test zero = 0
greatest test (suc n) = if test (suc n) then suc n else greatest test n
