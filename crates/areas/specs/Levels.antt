-- The level that is announced (SUBSET-026, 5.10; which level is taken and when it is asked for: this project's
-- profile). Lists of entries have the newest first. Places are centimetres.
use Rattle.std.specs.Prelude.{ℕ, ℤ, pos, ◌+ℤ◌, ◌-ℤ◌, Bool, true, false, not, ◌&&◌, int_lt, if◌then◌else◌, List, [], ◌∷◌, Option, Some, None}
use Rattle.std.specs.Option.{option_or}
use Rattle.vars.specs.declared.scale.Scale.{Scale}
use Rattle.vars.specs.declared.level.Level.{Level}
use Rattle.vars.specs.declared.level.Level.TheVariants as reported
use Rattle.vars.specs.declared.special_distance.StartPlace.{StartPlace}
use Rattle.vars.specs.declared.special_distance.StartPlace.TheVariants.{At, Now}
use Rattle.packets.specs.declared.level_transition.LevelOrder.{LevelOrder}
use Rattle.packets.specs.declared.level_transition.LevelTransition.{LevelTransition}
use Rattle.mode_table.specs.declared.level.TrainLevel.{TrainLevel}
use Rattle.mode_table.specs.declared.level.TrainLevel.TheVariants.{Level0, Level1}
use Rattle.areas.specs.declared.announcement.Announcement.{Announcement}
use Rattle.areas.specs.Description.{in_cm}

-- a packet 41, and the place of its group
pub record Fact : Type 0 where
  pub packet : LevelTransition
  pub place : ℤ

abbrev pub fact_of : LevelTransition → ℤ → Fact
fact_of packet place = record { packet = packet; place = place }

-- what bears on it: a packet 41; where the maximum safe front is after an event; that the announcement was deleted
pub data LevelEntry : Type 0 where
  Announced : Fact → LevelEntry
  Reached : ℤ → LevelEntry
  Forgotten : LevelEntry

-- ---- what a packet announces: the first of its levels that the train can run in

abbrev pub usable : Level → Option TrainLevel
usable reported.Level0 = Some Level0
usable reported.Level1 = Some Level1
usable level = None

abbrev pub announced_at : Scale → Option ℤ → LevelOrder → Option TrainLevel → Option Announcement
announced_at scale start order None = None
announced_at scale start order (Some level) = Some (record { level = level; start = start; acknowledgement = in_cm scale order.acknowledgement })

abbrev pub first_usable : Scale → Option ℤ → List LevelOrder → Option Announcement
first_usable scale start [] = None
first_usable scale start (order ∷ orders) =
    option_or (announced_at scale start order (usable order.level)) (first_usable scale start orders)

-- where it comes into force; None: wherever the train is
abbrev pub start_from : Scale → ℤ → StartPlace → Option ℤ
start_from scale place (At number) = Some (place +ℤ pos (in_cm scale number))
start_from scale place Now = None

abbrev pub announced_by : Fact → Option Announcement
announced_by fact = first_usable fact.packet.scale (start_from fact.packet.scale fact.place fact.packet.start) fact.packet.orders.items

-- ---- what waits

abbrev pub is_at : ℤ → Option ℤ → Bool
is_at max_front None = true
is_at max_front (Some start) = not (int_lt max_front start)

-- a maximum safe front has reached it
abbrev pub is_reached : ℤ → Announcement → Bool
is_reached max_front announced = is_at max_front announced.start

abbrev pub unless_reached : ℤ → Option Announcement → Option Announcement
unless_reached max_front None = None
unless_reached max_front (Some announced) = if is_reached max_front announced then None else Some announced

-- the newest announcement, until its start is reached or it is deleted
abbrev pub waiting : List LevelEntry → Option Announcement
waiting [] = None
waiting (Announced fact ∷ entries) = option_or (announced_by fact) (waiting entries)
waiting (Reached max_front ∷ entries) = unless_reached max_front (waiting entries)
waiting (Forgotten ∷ entries) = None

-- the level that a look brings into force
abbrev pub coming : ℤ → Option Announcement → Option TrainLevel
coming max_front None = None
coming max_front (Some announced) = if is_reached max_front announced then Some announced.level else None

-- ---- what is asked for: level 0

abbrev pub is_level_0 : TrainLevel → Bool
is_level_0 Level0 = true
is_level_0 Level1 = false

abbrev pub is_level_0_announced : Option Announcement → Bool
is_level_0_announced None = false
is_level_0_announced (Some announced) = is_level_0 announced.level

abbrev pub is_near : ℤ → ℕ → Option ℤ → Bool
is_near max_front before None = true
is_near max_front before (Some start) = not (int_lt max_front (start -ℤ pos before))

abbrev pub asks_for : ℤ → Announcement → Bool
asks_for max_front announced = is_level_0 announced.level && is_near max_front announced.acknowledgement announced.start

abbrev pub any_asks_for : ℤ → Option Announcement → Bool
any_asks_for max_front None = false
any_asks_for max_front (Some announced) = asks_for max_front announced
