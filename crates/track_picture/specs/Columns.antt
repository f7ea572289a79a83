-- A scaffold for proofs alone: no public clause reaches it (`tools/dev/definitions --check`). Part by part, what the
-- happenings of a life bring it, as entries of the crates that keep these parts: their contracts speak of such lists,
-- and so do the private functions here. The laws in `proofs/` say that each part is what is read off the facts that
-- count (this project's profile). Distances and places are centimetres, moments milliseconds. Lists of entries and of
-- happenings have the newest first; the packets of a message stand in its order.
use Rattle.std.specs.Prelude.{◌≡◌, ◌==◌, ◌||◌, ℤ, pos, neg_ℤ, not, Bool, if◌then◌else◌, Option, Some, List, [], ◌∷◌, filter}
use Rattle.std.specs.Int.{int_max}
use Rattle.std.specs.Option.{option_map_or}
use Rattle.units.specs.Limits.{outermost}
use Rattle.units.specs.Stretches.{Span}
use Rattle.events.specs.declared.input.Reading.{Reading}
use Rattle.packets.specs.Packets.{as_national_values, as_linking, as_movement_authority, as_gradients, as_static_speeds, as_level_transition, as_speed_restriction, as_revocation, as_mode_profile}
use Rattle.areas.specs.Areas.{stored}
use Rattle.areas.specs.Entries as areas
use Rattle.areas.specs.Levels as levels
use Rattle.authority.specs.Entries as authority
use Rattle.authority.specs.Known.{known as known_authority}
use Rattle.balise_groups.specs.declared.message.Broken.{Broken}
use Rattle.balise_groups.specs.declared.message.Closed.{Closed}
use Rattle.balise_groups.specs.declared.message.Message.{Message}
use Rattle.linking.specs.declared.announcement.Announcement.{Announcement}
use Rattle.linking.specs.declared.judgement.Verdict.{Verdict}
use Rattle.linking.specs.declared.judgement.Verdict.TheVariants.{Accept, Ignore, Reaction}
use Rattle.linking.specs.Judging.{after_verdict, after_broken}
use Rattle.linking.specs.Linking as linking
use Rattle.linking.specs.Linking.{is_passed_by, misses}
use Rattle.mode_table.specs.declared.mode.Mode.{Mode}
use Rattle.mode_table.specs.declared.statuses.Item.{Item}
use Rattle.mode_table.specs.declared.statuses.Item.TheVariants as item
use Rattle.national.specs.InForce as national
use Rattle.odometry.specs.Place as odometry
use Rattle.speed_profile.specs.declared.reported.CategorySpeeds.{CategorySpeeds}
use Rattle.speed_profile.specs.Reported.{gradient_fact, speed_fact}
use Rattle.track_store.specs.Facts as profiles
use Rattle.track_store.specs.Restrictions as track
use Rattle.track_picture.specs.declared.happened.Happened.{Happened}
use Rattle.track_picture.specs.Announcing.{announcements_of}
use Rattle.track_picture.specs.Entry.{TrackEntry, InputEffect, Used, Fact, nothing}
use Rattle.track_picture.specs.Live.{Happening, deleting, restriction_of}
use Rattle.track_picture.specs.Happenings.{happenings}
use Rattle.track_picture.specs.History.{place_of, group_of_fix, speed_of, groups_of, moment_of, happened_of, is_stopped}
use Rattle.track_picture.specs.Sentences.{entry_with, with_path, closed_by}
use Rattle.track_picture.specs.StandsFor.{Life, KnownTrack, Knowledge, grown_so_far}
use Rattle.track_picture.specs.Stores.{Stores}

-- ---- what a packet gives each part

abbrev pub after_values : Fact → List national.NationalEntry → List national.NationalEntry
after_values fact entries =
    option_map_or (λ p. national.NationalEntry.Announced (national.fact_of p fact.group.country fact.place) ∷ entries) (as_national_values fact.packet) entries

abbrev pub after_links : Fact → List linking.LinkEntry → List linking.LinkEntry
after_links fact entries =
    option_map_or (λ p. linking.LinkEntry.Announced (announcements_of fact.group fact.place p) ∷ entries) (as_linking fact.packet) entries

abbrev pub after_authority : Fact → List authority.AuthorityEntry → List authority.AuthorityEntry
after_authority fact entries =
    option_map_or (λ p. authority.AuthorityEntry.Accepted (authority.fact_of p fact.place fact.moment) ∷ entries) (as_movement_authority fact.packet) entries

-- whether an authority whose speed is 0 was used in the last event
abbrev pub after_stop : Fact → Bool → Bool
after_stop fact stopped = option_map_or (λ p. p.speed == 0 || stopped) (as_movement_authority fact.packet) stopped

-- an authority (packet 12) deletes the areas of before, and then new ones come (packet 80)
abbrev pub after_grant : Fact → List areas.AreaEntry → List areas.AreaEntry
after_grant fact entries = option_map_or (λ p. areas.AreaEntry.Cleared ∷ entries) (as_movement_authority fact.packet) entries

abbrev pub after_areas : Fact → List areas.AreaEntry → List areas.AreaEntry
after_areas fact entries = option_map_or (λ p. areas.AreaEntry.Reported (areas.fact_of p fact.place) ∷ entries) (as_mode_profile fact.packet) entries

abbrev pub after_level : Fact → List levels.LevelEntry → List levels.LevelEntry
after_level fact entries = option_map_or (λ p. levels.LevelEntry.Announced (levels.fact_of p fact.place) ∷ entries) (as_level_transition fact.packet) entries

abbrev pub after_restriction : Fact → List track.RestrictionEntry → List track.RestrictionEntry
after_restriction fact entries =
    option_map_or (λ p. track.RestrictionEntry.Restricted (restriction_of fact.place p) ∷ entries) (as_speed_restriction fact.packet) entries

abbrev pub after_revocation : Fact → List track.RestrictionEntry → List track.RestrictionEntry
after_revocation fact entries = option_map_or (λ p. track.RestrictionEntry.Revoked p.number ∷ entries) (as_revocation fact.packet) entries

abbrev pub after_gradients : Fact → List (profiles.Fact ℤ) → List (profiles.Fact ℤ)
after_gradients fact reported = option_map_or (λ p. gradient_fact fact.place p ∷ reported) (as_gradients fact.packet) reported

abbrev pub after_speeds : Fact → List (profiles.Fact CategorySpeeds) → List (profiles.Fact CategorySpeeds)
after_speeds fact reported = option_map_or (λ p. speed_fact fact.place p ∷ reported) (as_static_speeds fact.packet) reported

-- packets one after another
abbrev pub after_facts : {A : Type 0} → (Fact → A → A) → List Fact → A → A
after_facts describe [] reported = reported
after_facts describe (fact ∷ facts) reported = after_facts describe facts (describe fact reported)

-- ---- what the mode deletes that is entered

abbrev pub after_mode : {A : Type 0} → Item → (A → A) → Mode → A → A
after_mode item deleted mode reported = if deleting item mode then deleted reported else reported

abbrev pub links_deleted : List linking.LinkEntry → List linking.LinkEntry
links_deleted entries = linking.LinkEntry.Announced [] ∷ entries

abbrev pub authority_deleted : List authority.AuthorityEntry → List authority.AuthorityEntry
authority_deleted entries = authority.AuthorityEntry.Cleared ∷ entries

abbrev pub areas_deleted : List areas.AreaEntry → List areas.AreaEntry
areas_deleted entries = areas.AreaEntry.Cleared ∷ entries

abbrev pub level_deleted : List levels.LevelEntry → List levels.LevelEntry
level_deleted entries = levels.LevelEntry.Forgotten ∷ entries

abbrev pub none_reported : {A : Type 0} → List A → List A
none_reported reported = []

-- ---- what the parts were reported, and the forgetting mark

pub record TrackReports : Type 0 where
  pub values : List national.NationalEntry
  pub links : List linking.LinkEntry
  pub grants : List authority.AuthorityEntry
  pub areas : List areas.AreaEntry
  pub levels : List levels.LevelEntry
  pub restrictions : List track.RestrictionEntry
  pub mark : ℤ
  pub gradients : List (profiles.Fact ℤ)
  pub speeds : List (profiles.Fact CategorySpeeds)

abbrev pub nothing_reported : TrackReports
nothing_reported =
    record { values = []; links = []; grants = []; areas = []; levels = []; restrictions = []; mark = neg_ℤ (pos outermost); gradients = []; speeds = [] }

-- by a packet in the first walk over a message, and in the second
abbrev pub earlier_reported : Fact → TrackReports → TrackReports
earlier_reported fact reported =
    record reported {
      values = after_values fact reported.values;
      links = after_links fact reported.links;
      grants = after_authority fact reported.grants;
      areas = after_grant fact reported.areas;
      levels = after_level fact reported.levels;
      restrictions = after_restriction fact reported.restrictions;
      gradients = after_gradients fact reported.gradients;
      speeds = after_speeds fact reported.speeds;
    }

abbrev pub later_reported : Fact → TrackReports → TrackReports
later_reported fact reported =
    record reported { restrictions = after_revocation fact reported.restrictions; areas = after_areas fact reported.areas }

-- by a look at the train, and by a mode that is entered
abbrev pub after_look : Span → TrackReports → TrackReports
after_look train reported =
    record reported {
      values = national.NationalEntry.Reached train.max_front ∷ reported.values;
      grants = authority.AuthorityEntry.Passed train ∷ reported.grants;
      levels = levels.LevelEntry.Reached train.max_front ∷ reported.levels;
    }

abbrev pub after_entering : Mode → TrackReports → TrackReports
after_entering mode reported =
    record reported {
      links = after_mode item.Linking links_deleted mode reported.links;
      grants = after_mode item.Authority authority_deleted mode reported.grants;
      areas = after_mode item.ModeAreas areas_deleted mode reported.areas;
      levels = after_mode item.LevelAnnouncement level_deleted mode reported.levels;
      gradients = after_mode item.Profiles none_reported mode reported.gradients;
      speeds = after_mode item.Profiles none_reported mode reported.speeds;
    }

-- what became of an announced group; only a packet announces some
abbrev pub after_link : linking.LinkEntry → List linking.LinkEntry → List linking.LinkEntry
after_link (linking.LinkEntry.Announced announcements) entries = entries
after_link entry entries = entry ∷ entries

-- by a happening
abbrev pub after : Happening → TrackReports → TrackReports
after (Happening.Ticked moment) reported = record reported { grants = authority.AuthorityEntry.Ticked moment ∷ reported.grants }
after (Happening.Moved by) reported = reported
after (Happening.Linked entry) reported = record reported { links = after_link entry reported.links }
after (Happening.Accepted group) reported = record reported { values = national.NationalEntry.Entered group.country ∷ reported.values }
after (Happening.Fixed group fix) reported = reported
after (Happening.Reported fact) reported = later_reported fact (earlier_reported fact reported)
after (Happening.Seen sight) reported = after_look sight.train reported
after (Happening.Entered mode) reported = after_entering mode reported
after (Happening.Marked mark) reported =
    record reported { restrictions = track.RestrictionEntry.Forgotten mark ∷ reported.restrictions; mark = int_max mark reported.mark }

abbrev pub reported_in : List Happening → TrackReports
reported_in [] = nothing_reported
reported_in (happening ∷ earlier) = after happening (reported_in earlier)

abbrev pub description_of : List TrackEntry → TrackReports
description_of entries = reported_in (happenings entries)

-- ---- what the parts know of a life, and what stands for it, by these lists

abbrev pub known_by : Life → TrackReports → KnownTrack
known_by life reported =
    record {
      place = place_of life.entries;
      group = group_of_fix life.entries;
      speed = speed_of life.entries;
      groups = groups_of life.entries;
      links = linking.known reported.links;
      national = national.known life.kept reported.values;
      moment = moment_of life.entries;
      authority = known_authority reported.grants;
      areas = stored reported.areas;
      level = levels.waiting reported.levels;
      happened = happened_of life.entries;
      stopped = is_stopped life.entries;
    }

abbrev pub columns_of : Life → KnownTrack
columns_of life = known_by life (description_of life.entries)

pub record StandsForReported {G S : Type 0} (stores : Stores G S) (known : Knowledge G S) (life : Life) (reported : TrackReports) : Type 0 where
  pub parts_are : known.parts ≡ known_by life reported
  pub restrictions_are : known.restrictions.track ≡ track.in_force reported.restrictions
  pub gradients_are : stores.gradients known.gradients ≡ profiles.profile_of (record { mark = reported.mark; facts = reported.gradients })
  pub speeds_are : stores.speeds known.speeds ≡ profiles.profile_of (record { mark = reported.mark; facts = reported.speeds })

abbrev pub StandsForColumns : {G S : Type 0} → Stores G S → Knowledge G S → Life → Type 0
StandsForColumns stores known life = StandsForReported stores known life (description_of life.entries)

-- ---- a movement, by the announced groups that are left in these lists

abbrev pub links_left : List TrackEntry → linking.KnownLinks
links_left entries = linking.known (description_of entries).links

abbrev pub passed : List TrackEntry → InputEffect → List Announcement
passed entries initial = filter (is_passed_by (odometry.min_front (place_of (entry_with initial ∷ entries)))) (links_left entries).left

abbrev pub moved : List TrackEntry → Reading → InputEffect
moved entries reading =
    let went = with_path entries (record nothing { reading = Some reading }) in record went { missed = passed entries went }

abbrev pub happened_by : List TrackEntry → Reading → Happened
happened_by entries reading =
    record {
      overrun = not (odometry.stays_in_range (place_of entries) reading.movement);
      requested = misses (links_left entries).has_missed (moved entries reading).missed;
    }

-- the group that a movement leaves
abbrev pub left_by : List TrackEntry → Reading → Option Closed
left_by entries reading = (closed_by (groups_of entries) (moved entries reading).heard).ended

-- what a movement brings about, before the groups are used that it closes
abbrev pub after_moving : List TrackEntry → Reading → Used
after_moving entries reading = record { groups = []; happened = happened_by entries reading }

-- what the parts were reported after it, and know
abbrev pub reported_moved : List TrackEntry → Reading → TrackReports
reported_moved entries reading =
    record (description_of entries) { links = linking.after_misses (moved entries reading).missed (description_of entries).links }

abbrev pub known_moved : Life → Reading → KnownTrack
known_moved life reading =
    known_by (grown_so_far life (moved life.entries reading) (after_moving life.entries reading)) (reported_moved life.entries reading)

-- .. but that the group being read hasn't taken it yet
abbrev pub still_reading : Life → Reading → KnownTrack
still_reading life reading = record (known_moved life reading) { groups = groups_of life.entries }

-- ---- a group that closed

-- the country of a group that is accepted
abbrev pub after_country : Verdict → Message → List national.NationalEntry → List national.NationalEntry
after_country (Accept announced) message entries = national.NationalEntry.Entered message.group.country ∷ entries
after_country Ignore message entries = entries
after_country (Reaction a) message entries = entries

-- the verdict on a whole group; a broken one, where such links are left
abbrev pub after_judging : Verdict → Message → TrackReports → TrackReports
after_judging verdict message reported =
    record reported { links = after_verdict verdict reported.links; values = after_country verdict message reported.values }

abbrev pub after_breaking : linking.KnownLinks → Broken → TrackReports → TrackReports
after_breaking known group reported = record reported { links = after_broken known group.group group.linked reported.links }
