-- What counts of all that the track has reported in a life (SUBSET-026, 3.4.4, 3.7, 3.8, 3.11, 3.12.4, 3.16.2, 3.18.2, 4.10
-- and 5.10; the lines of the table: this project's profile). A fact counts from the happening that brings it until a
-- later one ends it. A power-up begins with no happening, and so with no fact. Lists have the newest first. Places are
-- centimetres, moments milliseconds.
use Rattle.std.specs.Prelude.{ℕ, ◌*◌, ℤ, pos, ◌+ℤ◌, Bool, true, false, not, ◌||◌, is_some, Option, None, List, [], ◌∷◌, ◌++◌, map, filter}
use Rattle.std.specs.Option.{option_map, option_map_or, option_or}
use Rattle.units.specs.Stretches.{Span}
use Rattle.vars.specs.Meanings.{centimetres_of}
use Rattle.vars.specs.declared.group.GroupIdentity.{GroupIdentity}
use Rattle.packets.specs.declared.packet.Packet.{Packet}
use Rattle.packets.specs.declared.packet.Packet.TheVariants as packets
use Rattle.packets.specs.declared.restrictions.SpeedRestriction.{SpeedRestriction}
use Rattle.packets.specs.Packets.{as_national_values, as_linking, as_movement_authority, as_level_transition, as_speed_restriction, as_revocation, as_mode_profile}
use Rattle.areas.specs.declared.announcement.Announcement.{Announcement as AnnouncedLevel}
use Rattle.areas.specs.declared.area.Area.{Area}
use Rattle.areas.specs.Entries as areas
use Rattle.areas.specs.Levels as levels
use Rattle.areas.specs.Description.{areas_of}
use Rattle.authority.specs.Entries as authority
use Rattle.authority.specs.Entries.{Sight}
use Rattle.linking.specs.declared.announcement.Announcement.{Announcement}
use Rattle.linking.specs.Linking as linking
use Rattle.linking.specs.Linking.{LinkEntry, numbered, takes}
use Rattle.mode_table.specs.declared.mode.Mode.{Mode}
use Rattle.mode_table.specs.declared.statuses.Fate.{Fate}
use Rattle.mode_table.specs.declared.statuses.Fate.TheVariants as fate
use Rattle.mode_table.specs.declared.statuses.Item.{Item}
use Rattle.mode_table.specs.declared.statuses.Item.TheVariants as item
use Rattle.mode_table.specs.Statuses.{status_on}
use Rattle.national.specs.InForce as national
use Rattle.odometry.specs.declared.fix.Fix.{Fix}
use Rattle.track_store.specs.declared.restriction.Restriction.{Restriction}
use Rattle.track_store.specs.Covering.{is_ended_by}
use Rattle.speed_profile.specs.declared.reported.CategorySpeeds.{CategorySpeeds}
use Rattle.speed_profile.specs.Reported.{gradient_fact, speed_fact}
use Rattle.track_store.specs.Facts as profiles
use Rattle.track_picture.specs.Announcing.{announcements_of}
use Rattle.track_picture.specs.Entry.{Fact}

-- ---- what happens in a life

pub data Happening : Type 0 where
  Ticked : ℕ → Happening  -- the clock reported a moment
  Moved : ℤ → Happening  -- the odometer reported a movement
  Linked : LinkEntry → Happening  -- an announced group was accepted, not used or broken, or missed, by the number of its link
  Accepted : GroupIdentity → Happening  -- a group was accepted
  Fixed : GroupIdentity → Fix → Happening  -- it made a fix of the train's place
  Reported : Fact → Happening  -- one of its packets was used
  Seen : Sight → Happening  -- the groups of an event are used, and the train is there
  Entered : Mode → Happening  -- another mode was entered
  Marked : ℤ → Happening  -- the track before this place is forgotten

-- ---- the facts that may count

pub data TrackFact : Type 0 where
  Values : national.Fact → TrackFact  -- national values that wait for their place (packet 3)
  Link : Announcement → TrackFact  -- one announced group (packet 5)
  Miss : TrackFact  -- an announced group was missed
  Authority : authority.Fact → TrackFact  -- a movement authority (packet 12)
  Look : Sight → TrackFact  -- where the train was, for the timers of the authority
  Gradients : profiles.Fact ℤ → TrackFact  -- gradients from a place on (packet 21)
  Speeds : profiles.Fact CategorySpeeds → TrackFact  -- static speeds from a place on (packet 27)
  Level : AnnouncedLevel → TrackFact  -- a level that is announced (packet 41)
  Restricted : Restriction → TrackFact  -- a temporary speed restriction (packet 65)
  Areas : List Area → TrackFact  -- mode areas (packet 80)

-- a restriction where it lies on the track, its group being at a place
abbrev pub restriction_of : ℤ → SpeedRestriction → Restriction
restriction_of place p =
    record {
      number = p.number;
      start = place +ℤ pos (p.start * centimetres_of p.scale);
      length = p.length * centimetres_of p.scale;
      delay = p.delay;
      speed = 5_000 * p.speed;
    }

-- the level that a packet 41 announces: the first that the train can run in, if there is one
abbrev pub level_reported : Fact → Option AnnouncedLevel
level_reported fact = option_map_or (λ p. levels.announced_by (levels.fact_of p fact.place)) (as_level_transition fact.packet) None

-- the facts that a packet says; one that revokes restrictions (packet 66) reports none, nor does one that isn't known
abbrev pub reported_by : Fact → Packet → List TrackFact
reported_by fact (packets.NationalValues p) = TrackFact.Values (national.fact_of p fact.group.country fact.place) ∷ []
reported_by fact (packets.Linking p) = map TrackFact.Link (numbered (announcements_of fact.group fact.place p))
reported_by fact (packets.MovementAuthority p) = TrackFact.Authority (authority.fact_of p fact.place fact.moment) ∷ []
reported_by fact (packets.Gradients p) = TrackFact.Gradients (gradient_fact fact.place p) ∷ []
reported_by fact (packets.StaticSpeeds p) = TrackFact.Speeds (speed_fact fact.place p) ∷ []
reported_by fact (packets.LevelTransition p) = option_map_or (λ level. TrackFact.Level level ∷ []) (level_reported fact) []
reported_by fact (packets.SpeedRestriction p) = TrackFact.Restricted (restriction_of fact.place p) ∷ []
reported_by fact (packets.RestrictionRevocation p) = []
reported_by fact (packets.ModeProfile p) = TrackFact.Areas (areas_of (areas.fact_of p fact.place)) ∷ []
reported_by fact (packets.Other p) = []

abbrev pub missed_by : LinkEntry → List TrackFact
missed_by (linking.LinkEntry.Announced announcements) = []
missed_by (linking.LinkEntry.Accepted number) = []
missed_by (linking.LinkEntry.Reacted number) = []
missed_by (linking.LinkEntry.Missed number) = TrackFact.Miss ∷ []

-- the facts that a happening brings
abbrev pub brought : Happening → List TrackFact
brought (Happening.Ticked moment) = []
brought (Happening.Moved by) = []
brought (Happening.Linked entry) = missed_by entry
brought (Happening.Accepted group) = []
brought (Happening.Fixed group fix) = []
brought (Happening.Reported fact) = reported_by fact fact.packet
brought (Happening.Seen sight) = TrackFact.Look sight ∷ []
brought (Happening.Entered mode) = []
brought (Happening.Marked mark) = []

-- ---- what ends a fact

-- a line of the table: which modes end it where they are entered, which later packets, which places of the train, and
-- what of an announced group
pub record Line : Type 0 where
  pub modes : Mode → Bool
  pub packets : Fact → Bool
  pub places : Span → Bool
  pub groups : LinkEntry → Bool

abbrev pub line : (Mode → Bool) → (Fact → Bool) → (Span → Bool) → (LinkEntry → Bool) → Line
line modes packets places groups = record { modes = modes; packets = packets; places = places; groups = groups }

-- the modes that delete an item by the table of statuses (4.10)
abbrev pub is_deleted : Fate → Bool
is_deleted fate.Kept = false
is_deleted fate.Invalid = false
is_deleted fate.Deleted = true

abbrev pub deleting : Item → Mode → Bool
deleting item mode = is_deleted (status_on item mode)

abbrev pub no_mode : Mode → Bool
no_mode mode = false

abbrev pub no_packet : Fact → Bool
no_packet fact = false

abbrev pub no_place : Span → Bool
no_place train = false

abbrev pub no_group : LinkEntry → Bool
no_group entry = false

-- packets by their kind
abbrev pub new_values : Fact → Bool
new_values fact = is_some (as_national_values fact.packet)

abbrev pub new_links : Fact → Bool
new_links fact = is_some (as_linking fact.packet)

abbrev pub new_authority : Fact → Bool
new_authority fact = is_some (as_movement_authority fact.packet)

abbrev pub new_authority_or_areas : Fact → Bool
new_authority_or_areas fact = is_some (as_movement_authority fact.packet) || is_some (as_mode_profile fact.packet)

-- a packet 41 that announces a level
abbrev pub new_level : Fact → Bool
new_level fact = is_some (level_reported fact)

-- the number of a restriction (packet 65) or of a revocation (packet 66)
abbrev pub number_of : Fact → Option ℕ
number_of fact =
    option_or (option_map (λ p. p.number) (as_speed_restriction fact.packet)) (option_map (λ p. p.number) (as_revocation fact.packet))

-- one of the restriction's number; number 255 is never replaced nor revoked
abbrev pub same_number : Restriction → Fact → Bool
same_number restriction fact = option_map_or (λ number. is_ended_by number restriction) (number_of fact) false

-- the maximum safe front has reached the place where values or a level come into force
abbrev pub values_reached : national.Fact → Span → Bool
values_reached values train = national.is_reached (national.start_of values) train.max_front

abbrev pub level_reached : AnnouncedLevel → Span → Bool
level_reached level train = levels.is_reached train.max_front level

-- an announced group that was accepted, with all that are announced before it; one that was not used, broken or missed,
-- alone
abbrev pub its_group : Announcement → LinkEntry → Bool
its_group a entry = takes entry a.number

abbrev pub accepted_group : LinkEntry → Bool
accepted_group (linking.LinkEntry.Announced announcements) = false
accepted_group (linking.LinkEntry.Accepted number) = true
accepted_group (linking.LinkEntry.Reacted number) = false
accepted_group (linking.LinkEntry.Missed number) = false

-- the table. In each line: the modes, the packets, the places, and the groups that end the fact
abbrev pub table : TrackFact → Line
-- 3: the values wait until their place is reached, and are in force from there on (3.18.2); the latest packet waits
table (TrackFact.Values values) = line (deleting item.AnnouncedValues) new_values (values_reached values) no_group
-- 5: one link of the latest list (3.4.4)
table (TrackFact.Link a) = line (deleting item.Linking) new_links no_place (its_group a)
-- a group was missed, until one is accepted as announced (3.16.2)
table TrackFact.Miss = line no_mode no_packet no_place accepted_group
-- 12: the latest authority, and what its timers have seen (3.8)
table (TrackFact.Authority granted) = line (deleting item.Authority) new_authority no_place no_group
table (TrackFact.Look sight) = line (deleting item.Authority) new_authority no_place no_group
-- 21 and 27: a later profile covers it from its first place on, and doesn't end it (3.7, 3.11)
table (TrackFact.Gradients reported) = line (deleting item.Profiles) no_packet no_place no_group
table (TrackFact.Speeds reported) = line (deleting item.Profiles) no_packet no_place no_group
-- 41: the latest level, until its place is reached: then it is in force (5.10)
table (TrackFact.Level level) = line (deleting item.LevelAnnouncement) new_level (level_reached level) no_group
-- 65: until its number is reported again or revoked (3.11.5)
table (TrackFact.Restricted restriction) = line (deleting item.Restrictions) (same_number restriction) no_place no_group
-- 80: the latest areas, until a later authority (3.12.4)
table (TrackFact.Areas reported) = line (deleting item.ModeAreas) new_authority_or_areas no_place no_group

-- a line names a happening
abbrev pub names : Line → Happening → Bool
names line (Happening.Ticked moment) = false
names line (Happening.Moved by) = false
names line (Happening.Linked entry) = line.groups entry
names line (Happening.Accepted group) = false
names line (Happening.Fixed group fix) = false
names line (Happening.Reported fact) = line.packets fact
names line (Happening.Seen sight) = line.places sight.train
names line (Happening.Entered mode) = line.modes mode
names line (Happening.Marked mark) = false

abbrev pub ends : Happening → TrackFact → Bool
ends happening fact = names (table fact) happening

-- ---- the facts that count

abbrev pub live : List Happening → List TrackFact
live [] = []
live (happening ∷ earlier) = brought happening ++ filter (λ fact. not (ends happening fact)) (live earlier)
