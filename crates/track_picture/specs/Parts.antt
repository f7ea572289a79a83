-- What each part of the track picture is, read off the facts that count (SUBSET-026, 3.4.4, 3.7, 3.8, 3.11, 3.12.4,
-- 3.18.2 and 5.10; the forgetting mark: this project's profile). Lists have the newest first. Places are centimetres,
-- moments milliseconds. The place of the train isn't a fact that something ends: it is read off movements and
-- fixes.
use Rattle.std.specs.Prelude.{ℕ, ℤ, pos, neg_ℤ, Option, Some, None, List, [], ◌∷◌, reverse, filter, filter_map}
use Rattle.std.specs.Int.{int_max}
use Rattle.std.specs.Option.{option_map, option_map_or}
use Rattle.units.specs.Limits.{outermost}
use Rattle.vars.specs.declared.group.GroupIdentity.{GroupIdentity}
use Rattle.packets.specs.Packets.{as_movement_authority}
use Rattle.areas.specs.declared.announcement.Announcement.{Announcement as AnnouncedLevel}
use Rattle.areas.specs.declared.area.Area.{Area}
use Rattle.authority.specs.Entries as authority
use Rattle.authority.specs.Entries.{AuthorityEntry, Sight}
use Rattle.linking.specs.declared.announcement.Announcement.{Announcement}
use Rattle.linking.specs.Linking.{KnownLinks}
use Rattle.national.specs.InForce as national
use Rattle.national.specs.Values.{ValuesFor}
use Rattle.odometry.specs.Place as odometry
use Rattle.track_store.specs.declared.restriction.Restriction.{Restriction}
use Rattle.track_store.specs.Covering.{reaches_past}
use Rattle.speed_profile.specs.declared.reported.CategorySpeeds.{CategorySpeeds}
use Rattle.track_store.specs.Facts as profiles
use Rattle.track_store.specs.Restrictions.{InForce}
use Rattle.track_store.specs.Profiles.{is_any}
use Rattle.track_picture.specs.Live.{Happening, TrackFact, live}

-- ---- the facts of one kind

abbrev pub as_values : TrackFact → Option national.Fact
as_values (TrackFact.Values values) = Some values
as_values fact = None

abbrev pub as_link : TrackFact → Option Announcement
as_link (TrackFact.Link a) = Some a
as_link fact = None

abbrev pub as_miss : TrackFact → Option (Unit {0})
as_miss TrackFact.Miss = Some tt
as_miss fact = None

abbrev pub as_authority : TrackFact → Option authority.Fact
as_authority (TrackFact.Authority granted) = Some granted
as_authority fact = None

abbrev pub as_look : TrackFact → Option Sight
as_look (TrackFact.Look sight) = Some sight
as_look fact = None

abbrev pub as_gradients : TrackFact → Option (profiles.Fact ℤ)
as_gradients (TrackFact.Gradients reported) = Some reported
as_gradients fact = None

abbrev pub as_speeds : TrackFact → Option (profiles.Fact CategorySpeeds)
as_speeds (TrackFact.Speeds reported) = Some reported
as_speeds fact = None

abbrev pub as_level : TrackFact → Option AnnouncedLevel
as_level (TrackFact.Level level) = Some level
as_level fact = None

abbrev pub as_restriction : TrackFact → Option Restriction
as_restriction (TrackFact.Restricted restriction) = Some restriction
as_restriction fact = None

abbrev pub as_areas : TrackFact → Option (List Area)
as_areas (TrackFact.Areas areas) = Some areas
as_areas fact = None

abbrev pub newest : {X : Type 0} → List X → Option X
newest [] = None
newest (x ∷ xs) = Some x

-- ---- each part

abbrev pub gradients_in : List Happening → List (profiles.Fact ℤ)
gradients_in happenings = filter_map as_gradients (live happenings)

abbrev pub speeds_in : List Happening → List (profiles.Fact CategorySpeeds)
speeds_in happenings = filter_map as_speeds (live happenings)

-- the greatest forgetting mark; without one, the least place that there is. It hides what lies before it, and ends
-- nothing
abbrev pub mark_in : List Happening → ℤ
mark_in [] = neg_ℤ (pos outermost)
mark_in (Happening.Marked mark ∷ earlier) = int_max mark (mark_in earlier)
mark_in (happening ∷ earlier) = mark_in earlier

-- restrictions are reported the oldest first
abbrev pub restrictions_in : List Happening → InForce
restrictions_in happenings = record {
  mark = mark_in happenings;
  restrictions = filter (reaches_past (mark_in happenings)) (reverse (filter_map as_restriction (live happenings)));
}

abbrev pub areas_or_none : Option (List Area) → List Area
areas_or_none None = []
areas_or_none (Some areas) = areas

abbrev pub areas_in : List Happening → List Area
areas_in happenings = areas_or_none (newest (filter_map as_areas (live happenings)))

abbrev pub level_in : List Happening → Option AnnouncedLevel
level_in happenings = newest (filter_map as_level (live happenings))

-- linking: the links that are left, and whether a group was missed
abbrev pub links_in : List Happening → KnownLinks
links_in happenings = record {
  left = filter_map as_link (live happenings);
  has_missed = is_any (filter_map as_miss (live happenings));
}

-- the moment for the timers: what the clock reported last, or when an authority was accepted
abbrev pub moment_in : List Happening → ℕ
moment_in [] = 0
moment_in (Happening.Ticked moment ∷ earlier) = moment
moment_in (Happening.Reported fact ∷ earlier) =
    option_map_or (λ p. fact.moment) (as_movement_authority fact.packet) (moment_in earlier)
moment_in (happening ∷ earlier) = moment_in earlier

-- the authority that counts, and what its timers have seen of the train since
abbrev pub granted_in : List Happening → Option authority.Fact
granted_in happenings = newest (filter_map as_authority (live happenings))

abbrev pub looks_in : List Happening → List Sight
looks_in happenings = filter_map as_look (live happenings)

-- both as the entries by which `authority` reports the end of authority: the moment now, each look with its moment, and
-- the acceptance
abbrev pub looked : List Sight → List AuthorityEntry → List AuthorityEntry
looked [] entries = entries
looked (sight ∷ sights) entries = authority.AuthorityEntry.Passed sight.train ∷ authority.AuthorityEntry.Ticked sight.moment ∷ looked sights entries

abbrev pub acceptance : Option authority.Fact → List AuthorityEntry
acceptance None = []
acceptance (Some granted) = authority.AuthorityEntry.Accepted granted ∷ []

unfoldable pub authorities_in : List Happening → List AuthorityEntry
authorities_in happenings =
    authority.AuthorityEntry.Ticked (moment_in happenings) ∷ looked (looks_in happenings) (acceptance (granted_in happenings))

-- ---- the place of the train, by movements and fixes, and the group of the last fix; None before the first

abbrev pub places_in : List Happening → List odometry.PlaceEntry
places_in [] = []
places_in (Happening.Moved by ∷ earlier) = odometry.after_movement (places_in earlier) by
places_in (Happening.Fixed group fix ∷ earlier) = odometry.PlaceEntry.Fixed fix ∷ places_in earlier
places_in (happening ∷ earlier) = places_in earlier

abbrev pub place_in : List Happening → odometry.KnownPlace
place_in happenings = odometry.known (places_in happenings)

abbrev pub group_in : List Happening → Option GroupIdentity
group_in [] = None
group_in (Happening.Fixed group fix ∷ earlier) = Some group
group_in (happening ∷ earlier) = group_in earlier

-- ---- national values: the packet 3 that waits, and the values in force by their table

abbrev pub values_in : List Happening → Option national.Fact
values_in happenings = newest (filter_map as_values (live happenings))

abbrev pub in_force_in : ValuesFor → List Happening → ValuesFor
in_force_in kept [] = kept
in_force_in kept (Happening.Accepted group ∷ earlier) =
    national.in_force_after (national.NationalEntry.Entered group.country) (values_in earlier) (in_force_in kept earlier)
in_force_in kept (Happening.Seen sight ∷ earlier) =
    national.in_force_after (national.NationalEntry.Reached sight.train.max_front) (values_in earlier) (in_force_in kept earlier)
in_force_in kept (happening ∷ earlier) = in_force_in kept earlier

abbrev pub national_in : ValuesFor → List Happening → national.KnownValues
national_in kept happenings = record {
  in_force = in_force_in kept happenings;
  announced = option_map national.announcement_of (values_in happenings);
}
