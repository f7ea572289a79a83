-- Announced balise groups, read off what one life brought (SUBSET-026, 3.4.4 and 3.16.2). Lists of entries have the
-- newest first. Places are centimetres.
use Rattle.std.specs.Prelude.{ℕ, ◌+◌, ◌*◌, ◌<◌, ℤ, pos, ◌+ℤ◌, ◌-ℤ◌, int_lt, Bool, true, false, not, ◌==◌, ◌||◌, nat_le, if◌then◌else◌, List, [], ◌∷◌, filter, length, AllPairs}
use Rattle.std.specs.Int.{from_bool}
use Rattle.std.specs.List.{list_any}
use Rattle.vars.specs.declared.linking.LinkReaction.{LinkReaction}
use Rattle.vars.specs.declared.linking.LinkReaction.TheVariants.{Trip, ServiceBrake, NoReaction}
use Rattle.linking.specs.declared.announcement.Announcement.{Announcement}
use Rattle.linking.specs.declared.effect.Effect.{Effect}

-- what bears on it
pub data LinkEntry : Type 0 where
  Announced : List Announcement → LinkEntry  -- a list of links (packet 5), in place of the one before; an empty one deletes linking
  Accepted : ℕ → LinkEntry  -- the group of the announcement of this number was accepted
  Reacted : ℕ → LinkEntry  -- that group wasn't used, or was broken
  Missed : ℕ → LinkEntry  -- the train had passed its place

-- ---- which announcements are left

-- an entry takes announcements of the latest list away, by their numbers: an acceptance its own and all before it
abbrev pub takes : LinkEntry → ℕ → Bool
takes (Announced announcements) number = false
takes (Accepted last) number = nat_le number last
takes (Reacted one) number = number == one
takes (Missed one) number = number == one

-- a list numbered in its order, whatever numbers it had
abbrev pub numbered_from : ℕ → List Announcement → List Announcement
numbered_from number [] = []
numbered_from number (a ∷ announcements) = record a { number = number } ∷ numbered_from (number + 1) announcements

abbrev pub numbered : List Announcement → List Announcement
numbered announcements = numbered_from 0 announcements

-- the latest list, empty before any
abbrev pub announced : List LinkEntry → List Announcement
announced [] = []
announced (Announced announcements ∷ entries) = numbered announcements
announced (Accepted number ∷ entries) = announced entries
announced (Reacted number ∷ entries) = announced entries
announced (Missed number ∷ entries) = announced entries

abbrev pub since_announced : List LinkEntry → List LinkEntry
since_announced [] = []
since_announced (Announced announcements ∷ entries) = []
since_announced (Accepted number ∷ entries) = Accepted number ∷ since_announced entries
since_announced (Reacted number ∷ entries) = Reacted number ∷ since_announced entries
since_announced (Missed number ∷ entries) = Missed number ∷ since_announced entries

-- an announcement of the latest list is left where no entry since has taken it away
abbrev pub left : List LinkEntry → List Announcement
left entries = filter (λ a. not (list_any (λ entry. takes entry a.number) (since_announced entries))) (announced entries)

-- whether a group was missed since the last that was accepted as announced, or else since the start of the life
abbrev pub has_missed : List LinkEntry → Bool
has_missed [] = false
has_missed (Announced announcements ∷ entries) = has_missed entries
has_missed (Accepted number ∷ entries) = false
has_missed (Reacted number ∷ entries) = has_missed entries
has_missed (Missed number ∷ entries) = true

-- what is known of linking
pub record KnownLinks : Type 0 where
  pub left : List Announcement
  pub has_missed : Bool

abbrev pub known : List LinkEntry → KnownLinks
known entries = record { left = left entries; has_missed = has_missed entries }

-- linking is in use while an announcement is left
abbrev pub is_any : List Announcement → Bool
is_any [] = false
is_any (a ∷ announcements) = true

-- the numbers of a list rise
abbrev pub IsRising : List Announcement → Type 0
IsRising announcements = AllPairs (λ a b. a.number < b.number) announcements

-- ---- where an announced group may lie, in centimetres

-- Q_LOCACC is in metres
abbrev pub doubt : Announcement → ℕ
doubt a = 100 * a.accuracy

abbrev pub first_place : Announcement → ℤ
first_place a = a.place -ℤ pos (doubt a)

abbrev pub last_place : Announcement → ℤ
last_place a = a.place +ℤ pos (doubt a)

-- the minimum safe front lies beyond it
abbrev pub is_passed_by : ℤ → Announcement → Bool
is_passed_by min_front a = int_lt (last_place a) min_front

-- ---- effects

abbrev pub no_effect : Effect
no_effect = record { trip = false; service = false }

abbrev pub trip : Effect
trip = record { trip = true; service = false }

abbrev pub service : Effect
service = record { trip = false; service = true }

abbrev pub combined_with : Effect → Effect → Effect
combined_with e f = record { trip = e.trip || f.trip; service = e.service || f.service }

abbrev pub effect_of : LinkReaction → Effect
effect_of Trip = trip
effect_of ServiceBrake = service
effect_of NoReaction = no_effect

-- what the reactions of some announcements ask for together
abbrev pub reactions : List Announcement → Effect
reactions announcements =
    record {
      trip = list_any (λ a. (effect_of a.reaction).trip) announcements;
      service = list_any (λ a. (effect_of a.reaction).service) announcements;
    }

-- missed announcements ask for what their reactions do, and for service where the second is missed with none accepted
-- between
abbrev pub misses : Bool → List Announcement → Effect
misses has_missed announcements =
    combined_with (reactions announcements) (if nat_le 2 (from_bool has_missed + length announcements) then service else no_effect)

-- one entry for each, in the order of the list
abbrev pub after_misses : List Announcement → List LinkEntry → List LinkEntry
after_misses [] entries = entries
after_misses (a ∷ announcements) entries = after_misses announcements (Missed a.number ∷ entries)
