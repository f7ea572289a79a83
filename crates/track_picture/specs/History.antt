-- What is known of the track and of the train on it, read off the entries of a life (SUBSET-026, 3.4.4, 3.7, 3.8, 3.11,
-- 3.12.4, 3.18.2 and 5.10; the rest: this project's profile). What the track announced is read off the facts that count
-- after the happenings of the life (`live`); place, speed, moment and groups are no facts that something ends, and are
-- read off the entries themselves. Distances and places are centimetres, moments milliseconds. Lists have the newest
-- first. A reader may take for granted that an entry holds all that its event brought.
use Rattle.std.specs.Prelude.{ℕ, ◌==◌, ℤ, Bool, false, Option, Some, None, unwrap_or, List, [], ◌∷◌}
use Rattle.std.specs.List.{list_any}
use Rattle.std.specs.Option.{option_map, option_map_or, option_or}
use Rattle.vars.specs.declared.group.GroupIdentity.{GroupIdentity}
use Rattle.events.specs.declared.input.Reading.{Reading}
use Rattle.packets.specs.Packets.{as_movement_authority}
use Rattle.areas.specs.declared.announcement.Announcement.{Announcement as AnnouncedLevel}
use Rattle.areas.specs.declared.area.Area.{Area}
use Rattle.authority.specs.Entries.{AuthorityEntry}
use Rattle.authority.specs.Known.{known as known_authority, KnownAuthority as Authority}
use Rattle.balise_groups.specs.Groups as groups
use Rattle.linking.specs.Linking.{KnownLinks}
use Rattle.odometry.specs.Place as odometry
use Rattle.odometry.specs.declared.fix.Fix.{Fix}
use Rattle.odometry.specs.Place.PlaceEntry.{Fixed}
use Rattle.speed_profile.specs.declared.reported.CategorySpeeds.{CategorySpeeds}
use Rattle.track_store.specs.Facts as profiles
use Rattle.track_store.specs.Profiles.{Profile}
use Rattle.track_store.specs.Restrictions.{InForce}
use Rattle.track_picture.specs.declared.happened.Happened.{Happened}
use Rattle.track_picture.specs.Entry.{TrackEntry, Outcome, Fact, nothing_happened, facts_in}
use Rattle.track_picture.specs.Entry.Outcome.{Broken, Ignored, Rejected, Accepted}
use Rattle.track_picture.specs.Happenings.{happenings}
use Rattle.track_picture.specs.Parts.{gradients_in, speeds_in, mark_in, restrictions_in, areas_in, level_in, links_in, authorities_in}

-- ---- the facts that count: linking, the restrictions in force, the mode areas, the announced level

abbrev pub links_of : List TrackEntry → KnownLinks
links_of entries = links_in (happenings entries)

abbrev pub restrictions_of : List TrackEntry → InForce
restrictions_of entries = restrictions_in (happenings entries)

abbrev pub areas_of : List TrackEntry → List Area
areas_of entries = areas_in (happenings entries)

abbrev pub announced_level : List TrackEntry → Option AnnouncedLevel
announced_level entries = level_in (happenings entries)

-- the authority, and what its timers have seen, as the entries by which `authority` says its end
abbrev pub authorities : List TrackEntry → List AuthorityEntry
authorities entries = authorities_in (happenings entries)

abbrev pub authority_of : List TrackEntry → Authority
authority_of entries = known_authority (authorities entries)

-- the gradient and the static speeds of each centimetre, from the forgetting mark on
abbrev pub gradients_of : List TrackEntry → Profile ℤ
gradients_of entries =
    profiles.profile_of (record { mark = mark_in (happenings entries); facts = gradients_in (happenings entries) })

abbrev pub speeds_of : List TrackEntry → Profile CategorySpeeds
speeds_of entries =
    profiles.profile_of (record { mark = mark_in (happenings entries); facts = speeds_in (happenings entries) })

-- ---- the moment: that of the last clock input, 0 before the first

abbrev pub moment_of : List TrackEntry → ℕ
moment_of [] = 0
moment_of (entry ∷ entries) = unwrap_or entry.initial.clock (moment_of entries)

-- ---- the speed: that of the last reading, 0 before the first

abbrev pub speed_of : List TrackEntry → ℕ
speed_of [] = 0
speed_of (entry ∷ entries) = option_map_or (λ reading. reading.speed) entry.initial.reading (speed_of entries)

-- ---- the place: movements, and after them the fixes of the groups

abbrev pub with_movement : Option Reading → List odometry.PlaceEntry → List odometry.PlaceEntry
with_movement None entries = entries
with_movement (Some reading) entries = odometry.after_movement entries reading.movement

abbrev pub with_fix : Option Fix → List odometry.PlaceEntry → List odometry.PlaceEntry
with_fix None entries = entries
with_fix (Some fix) entries = Fixed fix ∷ entries

abbrev pub fix_in : Outcome → Option Fix
fix_in (Broken b) = None
fix_in (Ignored message) = None
fix_in (Rejected message a) = None
fix_in (Accepted message announced fix facts) = fix

abbrev pub with_fixes : List Outcome → List odometry.PlaceEntry → List odometry.PlaceEntry
with_fixes [] entries = entries
with_fixes (outcome ∷ outcomes) entries = with_fix (fix_in outcome) (with_fixes outcomes entries)

abbrev pub places : List TrackEntry → List odometry.PlaceEntry
places [] = []
places (entry ∷ entries) = with_fixes entry.used.groups (with_movement entry.initial.reading (places entries))

abbrev pub place_of : List TrackEntry → odometry.KnownPlace
place_of entries = odometry.known (places entries)

-- the group of the newest fix, and without a fix another one
abbrev pub fixed_by : Outcome → Option GroupIdentity
fixed_by (Broken b) = None
fixed_by (Ignored message) = None
fixed_by (Rejected message a) = None
fixed_by (Accepted message announced fix facts) = option_map (λ f. message.group) fix

abbrev pub latest_fixed : List Outcome → Option GroupIdentity → Option GroupIdentity
latest_fixed [] group = group
latest_fixed (outcome ∷ outcomes) group = option_or (fixed_by outcome) (latest_fixed outcomes group)

-- the group of the last fix; None before the first
abbrev pub group_of_fix : List TrackEntry → Option GroupIdentity
group_of_fix [] = None
group_of_fix (entry ∷ entries) = latest_fixed entry.used.groups (group_of_fix entries)

-- ---- balise groups: the telegrams that were read, and the path

abbrev pub with_heard : Option groups.GroupEntry → List groups.GroupEntry → List groups.GroupEntry
with_heard None entries = entries
with_heard (Some heard) entries = heard ∷ entries

abbrev pub all_heard : List TrackEntry → List groups.GroupEntry
all_heard [] = []
all_heard (entry ∷ entries) = with_heard entry.initial.heard (all_heard entries)

abbrev pub groups_of : List TrackEntry → groups.KnownGroups
groups_of entries = groups.known (all_heard entries)

-- ---- what the last event brought about

-- whether an authority whose speed is 0 (V_MAIN) was used in it
abbrev pub is_stop : Fact → Bool
is_stop fact = option_map_or (λ p. p.speed == 0) (as_movement_authority fact.packet) false

abbrev pub is_stopped : List TrackEntry → Bool
is_stopped [] = false
is_stopped (entry ∷ entries) = list_any (λ outcome. list_any is_stop (facts_in outcome)) entry.used.groups

abbrev pub happened_of : List TrackEntry → Happened
happened_of [] = nothing_happened
happened_of (entry ∷ entries) = entry.used.happened
