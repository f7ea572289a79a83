-- What a balise group closes to (SUBSET-026, 3.4 and 3.16.2, with the causes and their order of this project's
-- profile). `readings` are those that count: the first of each place, in the order in which they came. Movements and
-- paths are centimetres.
use Rattle.std.specs.Prelude.{ℕ, zero, suc, ◌+◌, List, [], ◌∷◌, ◌++◌, Bool, true, false, ◌&&◌, ◌||◌, not, ◌==◌, nat_lt, if◌then◌else◌, Option, Some, None}
use Rattle.std.specs.List.{list_any}
use Rattle.vars.specs.declared.group.Duplicate.{Duplicate}
use Rattle.vars.specs.declared.group.Duplicate.TheVariants.{NoDuplicate, OfNext, OfPrevious}
use Rattle.vars.specs.declared.linking.LinkOrientation.{LinkOrientation}
use Rattle.vars.specs.declared.linking.LinkOrientation.TheVariants.{Reverse, Nominal}
use Rattle.telegram.specs.declared.message.Telegram.{Telegram}
use Rattle.balise_groups.specs.Description.{reported_by}
use Rattle.balise_groups.specs.declared.reading.Reading.{Reading}
use Rattle.balise_groups.specs.declared.message.Message.{Message}
use Rattle.balise_groups.specs.declared.message.Broken.{Broken}
use Rattle.balise_groups.specs.declared.message.Cause.{Cause}
use Rattle.balise_groups.specs.declared.message.Cause.TheVariants.{Missing, Counter, Mixed}
use Rattle.balise_groups.specs.declared.message.Closed.{Closed}
use Rattle.balise_groups.specs.declared.message.Closed.TheVariants as closed

-- ---- places

-- a test of each place from 0 up to one, and without it
abbrev pub all_below : ℕ → (ℕ → Bool) → Bool
all_below zero test = true
all_below (suc place) test = all_below place test && test place

-- N_PIG
abbrev pub is_at : ℕ → Reading → Bool
is_at place reading = reading.telegram.header.position == place

abbrev pub is_read : List Reading → ℕ → Bool
is_read readings place = list_any (is_at place) readings

-- The group is whole when all places from 0 to N_TOTAL of its first telegram are read.
abbrev pub is_whole : List Reading → Bool
is_whole [] = false
is_whole (first ∷ readings) = all_below (first.telegram.header.last_position + 1) (is_read (first ∷ readings))

-- M_DUP: a balise repeats the next one, or the previous one
abbrev pub is_of_next : Duplicate → Bool
is_of_next NoDuplicate = false
is_of_next OfNext = true
is_of_next OfPrevious = false

abbrev pub is_of_previous : Duplicate → Bool
is_of_previous NoDuplicate = false
is_of_previous OfNext = false
is_of_previous OfPrevious = true

-- the balise before the place repeats it, or the one after it does
abbrev pub covers : ℕ → Reading → Bool
covers place reading =
    ((reading.telegram.header.position + 1 == place) && is_of_next reading.telegram.header.duplicate)
    || ((reading.telegram.header.position == place + 1) && is_of_previous reading.telegram.header.duplicate)

abbrev pub is_covered : List Reading → ℕ → Bool
is_covered readings place = is_read readings place || list_any (covers place) readings

-- ---- why a group gives no message

abbrev pub same_flag : Bool → Bool → Bool
same_flag true flag = flag
same_flag false flag = not flag

-- another N_TOTAL or Q_LINK than the first telegram's
abbrev pub differs : Reading → Reading → Bool
differs first reading =
    not ((reading.telegram.header.last_position == first.telegram.header.last_position)
    && same_flag reading.telegram.header.linked first.telegram.header.linked)

-- M_MCOUNT: a counter that fits all others, and one that fits no message
abbrev pub fits_all : ℕ
fits_all = 255

abbrev pub fits_none : ℕ
fits_none = 254

-- counters that differ, neither of which fits all
abbrev pub disagrees : Reading → Reading → Bool
disagrees one other =
    not (one.telegram.header.counter == fits_all)
    && not (other.telegram.header.counter == fits_all)
    && not (one.telegram.header.counter == other.telegram.header.counter)

abbrev pub is_refused : List Reading → Reading → Bool
is_refused readings reading = (reading.telegram.header.counter == fits_none) || list_any (disagrees reading) readings

-- the first cause that holds, of Mixed, Counter and Missing
abbrev pub cause_of : Reading → List Reading → Option Cause
cause_of first readings =
    if list_any (differs first) readings then Some Mixed else
    (if list_any (is_refused readings) readings then Some Counter else
    (if all_below (first.telegram.header.last_position + 1) (is_covered readings) then None else Some Missing))

-- ---- the message

-- Of the first two different places read, rising is nominal, falling is reverse.
abbrev pub direction_of : List Reading → Option LinkOrientation
direction_of [] = None
direction_of (first ∷ []) = None
direction_of (first ∷ second ∷ readings) =
    Some (if nat_lt first.telegram.header.position second.telegram.header.position then Nominal else Reverse)

-- the reading of a place, else the one handed in
abbrev pub reading_at : ℕ → Reading → List Reading → Reading
reading_at place other [] = other
reading_at place other (reading ∷ readings) = if is_at place reading then reading else reading_at place other readings

-- the telegram of a place, where it was read
abbrev pub telegrams_at : ℕ → List Reading → List Telegram
telegrams_at place [] = []
telegrams_at place (reading ∷ readings) =
    if is_at place reading then reading.telegram ∷ [] else telegrams_at place readings

-- those of the places from 0 up to one, and without it
abbrev pub telegrams_below : ℕ → List Reading → List Telegram
telegrams_below zero readings = []
telegrams_below (suc place) readings = telegrams_below place readings ++ telegrams_at place readings

-- The group's place is that of balise 1, whose place is 0, or of the first reading where it was missed.
abbrev pub message_of : Reading → List Reading → Message
message_of first readings =
    record {
      group = first.telegram.header.group;
      linked = first.telegram.header.linked;
      direction = direction_of readings;
      sums = (reading_at 0 first readings).sums;
      missed = not (is_read readings 0);
      packets = reported_by (telegrams_below (first.telegram.header.last_position + 1) readings);
    }

abbrev pub broken_by : Reading → Cause → Broken
broken_by first cause =
    record { group = first.telegram.header.group; linked = first.telegram.header.linked; cause = cause }

abbrev pub closed_as : Reading → List Reading → Option Cause → Closed
closed_as first readings None = closed.Whole (message_of first readings)
closed_as first readings (Some cause) = closed.Broken (broken_by first cause)

-- what a group closes to, none where nothing was read
abbrev pub close_of : List Reading → Option Closed
close_of [] = None
close_of (first ∷ readings) = Some (closed_as first (first ∷ readings) (cause_of first (first ∷ readings)))
