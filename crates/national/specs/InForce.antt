-- The national values in force, read off what one life brought (SUBSET-026, 3.18.2; when they come into force: this
-- project's profile). Lists of entries have the newest first. Places are centimetres.
use Rattle.std.specs.Prelude.{ℕ, ℤ, pos, ◌+ℤ◌, Bool, true, false, not, ◌||◌, int_lt, if◌then◌else◌, Option, Some, None, option_map, List, [], ◌∷◌}
use Rattle.vars.specs.declared.scale.Scale.{Scale}
use Rattle.vars.specs.declared.special_distance.StartPlace.{StartPlace}
use Rattle.vars.specs.declared.special_distance.StartPlace.TheVariants.{At, Now}
use Rattle.packets.specs.declared.national.NationalValues.{NationalValues}
use Rattle.national.specs.declared.announcement.Announcement.{Announcement}
use Rattle.national.specs.Values.{ValuesFor, values_for, defaults, reported_by, distance_in, is_foreign}

-- a packet 3, with the country and the place of its group
pub record Fact : Type 0 where
  pub packet : NationalValues
  pub country : ℕ
  pub place : ℤ

abbrev pub fact_of : NationalValues → ℕ → ℤ → Fact
fact_of packet country place = record { packet = packet; country = country; place = place }

-- what bears on it
pub data NationalEntry : Type 0 where
  Announced : Fact → NationalEntry  -- a packet 3 was stored
  Entered : ℕ → NationalEntry  -- a group of this country was accepted, and its packets aren't taken yet
  Reached : ℤ → NationalEntry  -- an event is over but for its look: where the greatest front is

-- ---- what is announced

-- where a packet 3 comes into force; None: wherever the train is
abbrev pub start_from : Scale → ℤ → StartPlace → Option ℤ
start_from scale place (At number) = Some (place +ℤ pos (distance_in scale number))
start_from scale place Now = None

abbrev pub start_of : Fact → Option ℤ
start_of fact = start_from fact.packet.scale fact.place fact.packet.start

-- a maximum safe front has reached it
abbrev pub is_reached : Option ℤ → ℤ → Bool
is_reached None max_front = true
is_reached (Some start) max_front = not (int_lt max_front start)

-- what an entry brings
abbrev pub brought : NationalEntry → Option Fact
brought (Announced fact) = Some fact
brought (Entered country) = None
brought (Reached max_front) = None

-- what ends the wait of a packet 3: a later one, and a look that finds its start reached; a group doesn't
abbrev pub ends : NationalEntry → Fact → Bool
ends (Announced later) fact = true
ends (Entered country) fact = false
ends (Reached max_front) fact = is_reached (start_of fact) max_front

abbrev pub unless_ended_by : NationalEntry → Option Fact → Option Fact
unless_ended_by entry None = None
unless_ended_by entry (Some fact) = if ends entry fact then None else Some fact

abbrev pub or_before : Option Fact → Option Fact → Option Fact
or_before None before = before
or_before (Some fact) before = Some fact

-- the packet 3 that waits: it came, and nothing later has ended its wait
abbrev pub waiting : List NationalEntry → Option Fact
waiting [] = None
waiting (entry ∷ earlier) = or_before (brought entry) (unless_ended_by entry (waiting earlier))

-- ---- what is in force

-- a table: what an entry leaves in force, by what waits and what was in force before it
--   a group of a country that is foreign to these values: the defaults, for that country alone
--   a look that finds the start of the waiting packet 3 reached: the values of that packet, for its countries
--   everything else: what was in force
abbrev pub in_force_after : NationalEntry → Option Fact → ValuesFor → ValuesFor
in_force_after (Entered country) waits before =
    if is_foreign country before.countries then values_for defaults (country ∷ []) else before
in_force_after (Reached max_front) (Some fact) before =
    if is_reached (start_of fact) max_front then reported_by fact.packet fact.country else before
in_force_after (Reached max_front) None before = before
in_force_after (Announced fact) waits before = before

-- at first it is what a power-up kept
abbrev pub in_force : ValuesFor → List NationalEntry → ValuesFor
in_force kept [] = kept
in_force kept (entry ∷ earlier) = in_force_after entry (waiting earlier) (in_force kept earlier)

-- whether a packet 3 came into force
abbrev pub comes_by : NationalEntry → Option Fact → Bool
comes_by (Reached max_front) (Some fact) = is_reached (start_of fact) max_front
comes_by (Reached max_front) None = false
comes_by (Entered country) waits = false
comes_by (Announced fact) waits = false

abbrev pub has_come : List NationalEntry → Bool
has_come [] = false
has_come (entry ∷ earlier) = comes_by entry (waiting earlier) || has_come earlier

-- ---- what is known

-- at first the defaults hold, for no country
abbrev pub nothing_kept : ValuesFor
nothing_kept = values_for defaults []

abbrev pub announcement_of : Fact → Announcement
announcement_of fact = record { values = reported_by fact.packet fact.country; start = start_of fact }

pub record KnownValues : Type 0 where
  pub in_force : ValuesFor
  pub announced : Option Announcement

-- where what is announced comes into force; None where nothing is, or it does wherever the train is
abbrev pub start_or_none : Option Announcement → Option ℤ
start_or_none None = None
start_or_none (Some a) = a.start

abbrev pub announced_start : KnownValues → Option ℤ
announced_start values = start_or_none values.announced

abbrev pub known : ValuesFor → List NationalEntry → KnownValues
known kept entries =
    record { in_force = in_force kept entries; announced = option_map announcement_of (waiting entries) }
