-- The groups of a life, read off its readings of balises and its movements (SUBSET-026, 3.4; the 1,300 cm, and that a
-- telegram of the group that closed last is ignored, are this project's profile). Paths are centimetres. Lists of
-- entries and of a group's readings have the newest first; the readings that count stand in the order in which they
-- came. A reader may take for granted that each telegram was accepted by the decoder.
use Rattle.std.specs.Prelude.{ℕ, ◌+◌, List, [], ◌∷◌, ◌++◌, Bool, false, ◌&&◌, not, ◌==◌, nat_le, if◌then◌else◌, Option, Some, None, option_map}
use Rattle.vars.specs.declared.group.GroupIdentity.{GroupIdentity}
use Rattle.balise_groups.specs.declared.reading.Reading.{Reading}
use Rattle.balise_groups.specs.declared.message.Closed.{Closed}
use Rattle.balise_groups.specs.declared.assembler.Seen.{Seen}
use Rattle.balise_groups.specs.declared.assembler.Taken.{Taken}
use Rattle.balise_groups.specs.Closing.{is_read, is_whole, close_of}

-- what bears on groups: a reading, or a movement with the path of the life after it
pub data GroupEntry : Type 0 where
  Read : Reading → GroupEntry
  Went : ℕ → GroupEntry

-- ---- one group: the list of its readings, newest first

-- A repeat of a place that was read already doesn't count.
abbrev pub with_reading : List Reading → Reading → List Reading
with_reading readings reading =
    if is_read readings reading.telegram.header.position then readings else readings ++ reading ∷ []

-- those that count: the first of each place, in the order in which they came
abbrev pub counting : List Reading → List Reading
counting [] = []
counting (reading ∷ group) = with_reading (counting group) reading

abbrev pub seen_at : Reading → Seen
seen_at reading = record { group = reading.telegram.header.group; path = reading.sums.path }

-- the newest telegram of a group
abbrev pub newest : List Reading → Option Seen
newest [] = None
newest (reading ∷ group) = Some (seen_at reading)

-- how far beyond its newest telegram a group is still the same one, in centimetres of path
abbrev pub group_path : ℕ
group_path = 1300

abbrev pub is_close : ℕ → Seen → Bool
is_close path seen = nat_le path (seen.path + group_path)

-- A group is left where the path is farther after its newest telegram.
abbrev pub is_passed : ℕ → Option Seen → Bool
is_passed path None = false
is_passed path (Some seen) = not (is_close path seen)

-- NID_C and NID_BG are equal
abbrev pub same_group : GroupIdentity → GroupIdentity → Bool
same_group one other = (one.country == other.country) && (one.number == other.number)

-- a telegram of the group, which isn't left
abbrev pub goes_on : Reading → Option Seen → Bool
goes_on reading None = false
goes_on reading (Some seen) = same_group reading.telegram.header.group seen.group && is_close reading.sums.path seen

-- ---- the groups of a life

-- the group being read, if any, and the group that closed last, with the telegrams of it that were ignored since
pub record Groups : Type 0 where
  pub current : List Reading
  pub last : List Reading

-- once the group being read has ended, if there is one
abbrev pub last_after : List Reading → List Reading → List Reading
last_after [] last = last
last_after (reading ∷ group) last = reading ∷ group

abbrev pub ended : Groups → Groups
ended groups = record { current = []; last = last_after groups.current groups.last }

abbrev pub ended_if_whole : Groups → Groups
ended_if_whole groups = if is_whole (counting groups.current) then ended groups else groups

-- one more telegram of the group being read, which may make it whole
abbrev pub joined_by : Reading → Groups → Groups
joined_by reading groups = ended_if_whole (record { current = reading ∷ groups.current; last = groups.last })

-- A telegram of the group that closed last is ignored, one of the group being read joins it, any other one ends the
-- group being read and begins its own.
abbrev pub after_reading : Reading → Groups → Groups
after_reading reading groups =
    if goes_on reading (newest groups.last) then record { current = groups.current; last = reading ∷ groups.last } else
    (if goes_on reading (newest groups.current) then joined_by reading groups
    else joined_by reading (ended groups))

abbrev pub after_movement : ℕ → Groups → Groups
after_movement path groups = if is_passed path (newest groups.current) then ended groups else groups

abbrev pub groups_of : List GroupEntry → Groups
groups_of [] = record { current = []; last = [] }
groups_of (Read reading ∷ entries) = after_reading reading (groups_of entries)
groups_of (Went path ∷ entries) = after_movement path (groups_of entries)

-- ---- what has to be kept of them

-- the readings of the group being read that count, its newest telegram, and that of the group that closed last
pub record KnownGroups : Type 0 where
  pub readings : List Reading
  pub current : Option Seen
  pub last : Option Seen

abbrev pub known_of : Groups → KnownGroups
known_of groups =
    record { readings = counting groups.current; current = newest groups.current; last = newest groups.last }

abbrev pub known : List GroupEntry → KnownGroups
known entries = known_of (groups_of entries)

-- the group being read, if one is
abbrev pub being_read : KnownGroups → Option GroupIdentity
being_read groups = option_map (λ (seen : Seen). seen.group) groups.current

-- ---- what closes

abbrev pub close_if_whole : List Reading → Option Closed
close_if_whole readings = if is_whole readings then close_of readings else None

-- A reading closes the group that it ends, and its own where that is whole now.
abbrev pub taken_by : Reading → KnownGroups → Taken
taken_by reading known =
    if goes_on reading known.last then record { ended = None; whole = None } else
    (if goes_on reading known.current then record { ended = None; whole = close_if_whole (with_reading known.readings reading) }
    else record { ended = close_of known.readings; whole = close_if_whole (with_reading [] reading) })

-- A movement closes the group that is left.
abbrev pub ended_by : ℕ → KnownGroups → Option Closed
ended_by path known = if is_passed path known.current then close_of known.readings else None
