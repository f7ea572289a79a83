-- What is known of a life by the facts that count is what the lists of its parts give: so what stands for the one
-- stands for the other.
use Rattle.std.proofs.Common.{◌≡◌, List, [], ◌∷◌, Option, Some, None, refl, ap, sym, ◌∙◌}
use Rattle.std.specs.Prelude.{not, filter}
use Rattle.std.specs.Option.{option_map}
use Rattle.authority.specs.Authority.{end_of, end_now}
use Rattle.authority.specs.Entries as authority
use Rattle.authority.specs.Entries.{AuthorityEntry, Sight, accepted, sights, now_of}
use Rattle.authority.specs.Known.{known as known_authority, stored_of}
use Rattle.events.specs.declared.input.Reading.{Reading}
use Rattle.linking.specs.Linking.{is_passed_by, misses}
use Rattle.national.specs.InForce as national
use Rattle.odometry.specs.Place as odometry
use Rattle.track_store.specs.Facts as profiles
use Rattle.track_picture.specs.Entry.{TrackEntry, InputEffect, nothing}
use Rattle.track_picture.specs.Happenings.{happenings}
use Rattle.track_picture.specs.Parts.{newest, granted_in, looks_in, looked, acceptance, authorities_in}
use Rattle.track_picture.specs.History.{place_of, group_of_fix, speed_of, groups_of, moment_of, happened_of, is_stopped}
use Rattle.track_picture.specs.History as picture
use Rattle.track_picture.specs.Sentences.{entry_with, with_path}
use Rattle.track_picture.specs.Sentences as sentences
use Rattle.track_picture.specs.StandsFor.{Life, Knowledge, StandsForLife, parts_of, national_of}
use Rattle.track_picture.specs.Columns as columns
use Rattle.track_picture.specs.Columns.{StandsForColumns, columns_of, description_of}
use Rattle.track_picture.specs.Stores.{Stores}
use Rattle.track_picture.proofs.Announced.{level_is}
use Rattle.track_picture.proofs.Chain.{links_are}
use Rattle.track_picture.proofs.Granted.{grants_are, looks_are, moment_is}
use Rattle.track_picture.proofs.Limits.{restrictions_are}
use Rattle.track_picture.proofs.Nation.{values_are, in_force_is}
use Rattle.track_picture.proofs.OneKind.{newest_listed}
use Rattle.track_picture.proofs.Profile.{gradients_are, speeds_are, mark_is}
use Rattle.track_picture.proofs.Zones.{areas_are}

-- ---- the authority: what its entries report is the authority that counts, with what its timers have seen

accepted_after : (looks : List Sight) (granted : Option authority.Fact) → accepted (looked looks (acceptance granted)) ≡ granted
accepted_after [] None = refl
accepted_after [] (Some fact) = refl
accepted_after (look ∷ looks) granted = accepted_after looks granted

seen_after : (looks : List Sight) (granted : Option authority.Fact) → sights (looked looks (acceptance granted)) ≡ looks
seen_after [] None = refl
seen_after [] (Some fact) = refl
seen_after (look ∷ looks) granted = ap (λ xs. look ∷ xs) (seen_after looks granted)

pub same_accepted : (events : List TrackEntry) → accepted (picture.authorities events) ≡ accepted (description_of events).grants
unfolding authorities_in
same_accepted events =
    accepted_after (looks_in (happenings events)) (granted_in (happenings events))
    ∙ (ap newest (grants_are (happenings events)) ∙ newest_listed (accepted (description_of events).grants))

same_sights : (events : List TrackEntry) → sights (picture.authorities events) ≡ sights (description_of events).grants
unfolding authorities_in
same_sights events = seen_after (looks_in (happenings events)) (granted_in (happenings events)) ∙ looks_are events

same_now : (events : List TrackEntry) → now_of (picture.authorities events) ≡ now_of (description_of events).grants
unfolding authorities_in
same_now events = moment_is (happenings events)

same_authority : (events : List TrackEntry) → picture.authority_of events ≡ known_authority (description_of events).grants
same_authority events =
    (λ i. record {
      moment = same_now events i;
      stored = option_map (λ fact. stored_of fact (same_sights events i)) (same_accepted events i);
    })

pub same_end : (events : List TrackEntry) → end_of (picture.authorities events) ≡ end_of (description_of events).grants
same_end events = (λ i. option_map (λ fact. end_now fact (same_now events i) (same_sights events i)) (same_accepted events i))

-- ---- all parts

same_national : (life : Life) → national_of life ≡ national.known life.kept (description_of life.entries).values
same_national life =
    (λ i. record {
      in_force = in_force_is life.kept (happenings life.entries) i;
      announced = option_map national.announcement_of (values_are (happenings life.entries) i);
    })

pub same_parts : (life : Life) → parts_of life ≡ columns_of life
same_parts life =
    (λ i. record {
      place = place_of life.entries;
      group = group_of_fix life.entries;
      speed = speed_of life.entries;
      groups = groups_of life.entries;
      links = links_are (happenings life.entries) i;
      national = same_national life i;
      moment = moment_of life.entries;
      authority = same_authority life.entries i;
      areas = areas_are (happenings life.entries) i;
      level = level_is (happenings life.entries) i;
      happened = happened_of life.entries;
      stopped = is_stopped life.entries;
    })

same_gradients : (events : List TrackEntry) →
    picture.gradients_of events ≡ profiles.profile_of (record { mark = (description_of events).mark; facts = (description_of events).gradients })
same_gradients events =
    (λ i. profiles.profile_of (record { mark = mark_is (happenings events) i; facts = gradients_are (happenings events) i }))

same_speeds : (events : List TrackEntry) →
    picture.speeds_of events ≡ profiles.profile_of (record { mark = (description_of events).mark; facts = (description_of events).speeds })
same_speeds events =
    (λ i. profiles.profile_of (record { mark = mark_is (happenings events) i; facts = speeds_are (happenings events) i }))

module _ {G S : Type 0} {stores : Stores G S} {known : Knowledge G S} where
  pub by_columns : (life : Life) → StandsForLife stores known life → StandsForColumns stores known life
  by_columns life s = record {
    parts_are = s.parts_are ∙ same_parts life;
    restrictions_are = s.restrictions_are ∙ restrictions_are (happenings life.entries);
    gradients_are = s.gradients_are ∙ same_gradients life.entries;
    speeds_are = s.speeds_are ∙ same_speeds life.entries;
  }

  pub by_facts : (life : Life) → StandsForColumns stores known life → StandsForLife stores known life
  by_facts life s = record {
    parts_are = s.parts_are ∙ sym (same_parts life);
    restrictions_are = s.restrictions_are ∙ sym (restrictions_are (happenings life.entries));
    gradients_are = s.gradients_are ∙ sym (same_gradients life.entries);
    speeds_are = s.speeds_are ∙ sym (same_speeds life.entries);
  }

-- ---- a movement

pub same_moved : (events : List TrackEntry) (reading : Reading) → sentences.moved events reading ≡ columns.moved events reading
same_moved events reading =
    let went : InputEffect = with_path events (record nothing { reading = Some reading }) in
    (λ i. record went { missed = filter (is_passed_by (odometry.min_front (place_of (entry_with went ∷ events)))) (links_are (happenings events) i).left })

pub same_happened : (events : List TrackEntry) (reading : Reading) →
    sentences.happened_by events reading ≡ columns.happened_by events reading
same_happened events reading =
    (λ i. record {
      overrun = not (odometry.stays_in_range (place_of events) reading.movement);
      requested = misses (links_are (happenings events) i).has_missed (same_moved events reading i).missed;
    })
