-- What the parts are reported by an event, sentence by sentence; and by the packets of a message, walk by walk.
use Rattle.std.proofs.Common.{◌≡◌, ℤ, Bool, true, false, List, [], ◌∷◌, cond, refl, ap, sym, ◌∙◌}
use Rattle.std.specs.Prelude.{ℕ, ◌||◌, ◌==◌, Option, Some, None, not, filter}
use Rattle.std.specs.Int.{int_max}
use Rattle.std.specs.List.{list_any}
use Rattle.std.specs.Option.{option_map_or}
use Rattle.vars.specs.declared.group.GroupIdentity.{GroupIdentity}
use Rattle.linking.specs.declared.announcement.Announcement.{Announcement}
use Rattle.balise_groups.specs.declared.message.Message.{Message}
use Rattle.linking.specs.declared.judgement.Verdict.{Verdict}
use Rattle.linking.specs.declared.judgement.Verdict.TheVariants.{Accept, Ignore, Reaction}
use Rattle.linking.specs.Judging.{meant}
use Rattle.linking.specs.Linking as linking
use Rattle.linking.specs.Linking.{after_misses}
use Rattle.packets.specs.declared.authority.MovementAuthority.{MovementAuthority}
use Rattle.packets.specs.declared.packet.Packet.{Packet}
use Rattle.packets.specs.declared.packet.Packet.TheVariants as packets
use Rattle.packets.specs.Packets.{as_movement_authority}
use Rattle.track_store.specs.Restrictions as track
use Rattle.track_picture.specs.Columns.{TrackReports, reported_in, after, after_facts, after_stop, earlier_reported, later_reported, after_judging, after_breaking}
use Rattle.track_picture.specs.Entry.{TrackEntry, Fact, Outcome, facts_in}
use Rattle.track_picture.specs.Happenings.{and_ticked, and_moved, and_missed, and_judged, and_reported, and_used, and_closed, and_seen, and_marked, comes_later, happenings}
use Rattle.track_picture.specs.History.{is_stop}
use Rattle.track_picture.specs.Live.{Happening}
use Rattle.track_picture.specs.Parts.{links_in}
use Rattle.track_picture.specs.Sentences.{outcome_at_first}
use Rattle.track_picture.specs.Reported.{Walked, after_earlier, after_later}
use Rattle.track_picture.proofs.OneKind.{fact_with}

-- what happened up to the groups of an event, and up to its look at the train
abbrev pub up_to_groups : TrackEntry → List TrackEntry → List Happening
up_to_groups event earlier =
    and_closed event.used.groups (and_missed event.initial.missed (and_moved event.initial.reading (and_ticked event.initial.clock (happenings earlier))))

abbrev pub up_to_look : TrackEntry → List TrackEntry → List Happening
up_to_look event earlier = and_seen event.train (up_to_groups event earlier)

-- ---- the groups that were missed

pub reported_missed : (announcements : List Announcement) (hs : List Happening) →
    reported_in (and_missed announcements hs) ≡ record (reported_in hs) { links = after_misses announcements (reported_in hs).links }
reported_missed [] hs = refl
reported_missed (a ∷ announcements) hs = reported_missed announcements (Happening.Linked (linking.LinkEntry.Missed a.number) ∷ hs)

-- ---- the verdict on a group

abbrev pub judged_reported : Outcome → List Happening → TrackReports
judged_reported (Outcome.Broken b) hs = after_breaking (links_in hs) b (reported_in hs)
judged_reported (Outcome.Ignored message) hs = after_judging Ignore message (reported_in hs)
judged_reported (Outcome.Rejected message a) hs = after_judging (Reaction a) message (reported_in hs)
judged_reported (Outcome.Accepted message announced fix facts) hs = after_judging (Accept announced) message (reported_in hs)

reported_broken : (a : Option Announcement) (hs : List Happening) →
    reported_in (option_map_or (λ b. Happening.Linked (linking.LinkEntry.Reacted b.number) ∷ hs) a hs)
    ≡ record (reported_in hs) { links = option_map_or (λ b. linking.LinkEntry.Reacted b.number ∷ (reported_in hs).links) a (reported_in hs).links }
reported_broken None hs = refl
reported_broken (Some a) hs = refl

pub reported_judged : (outcome : Outcome) (hs : List Happening) → reported_in (and_judged outcome hs) ≡ judged_reported outcome hs
reported_judged (Outcome.Broken b) hs = reported_broken (meant (links_in hs) b.group b.linked) hs
reported_judged (Outcome.Ignored message) hs = refl
reported_judged (Outcome.Rejected message a) hs = refl
reported_judged (Outcome.Accepted message None None facts) hs = refl
reported_judged (Outcome.Accepted message None (Some fix) facts) hs = refl
reported_judged (Outcome.Accepted message (Some a) None facts) hs = refl
reported_judged (Outcome.Accepted message (Some a) (Some fix) facts) hs = refl

pub reported_first : (verdict : Verdict) (message : Message) (hs : List Happening) →
    (let outcome = outcome_at_first message verdict in reported_in (and_used (facts_in outcome) (and_judged outcome hs)) ≡ after_judging verdict message (reported_in hs))
reported_first (Accept announced) message hs = reported_judged (Outcome.Accepted message announced None []) hs
reported_first Ignore message hs = refl
reported_first (Reaction a) message hs = refl

-- ---- the packets of a group

earlier_one : (group : GroupIdentity) (place : ℤ) (moment : ℕ) (packet : Packet) (reported : TrackReports) →
    (let fact = fact_with group place moment packet in cond (not (comes_later packet)) (after (Happening.Reported fact) reported) reported ≡ earlier_reported fact reported)
earlier_one g p m (packets.RestrictionRevocation q) reported = refl
earlier_one g p m (packets.ModeProfile q) reported = refl
earlier_one g p m other reported = refl

later_one : (group : GroupIdentity) (place : ℤ) (moment : ℕ) (packet : Packet) (reported : TrackReports) →
    (let fact = fact_with group place moment packet in cond (comes_later packet) (after (Happening.Reported fact) reported) reported ≡ later_reported fact reported)
later_one g p m (packets.RestrictionRevocation q) reported = refl
later_one g p m (packets.ModeProfile q) reported = refl
later_one g p m other reported = refl

reported_if : (k : Bool) (fact : Fact) (hs : List Happening) →
    reported_in (cond k (Happening.Reported fact ∷ hs) hs) ≡ cond k (after (Happening.Reported fact) (reported_in hs)) (reported_in hs)
reported_if true fact hs = refl
reported_if false fact hs = refl

and_if : (k : Bool) (fact : Fact) (facts : List Fact) (hs : List Happening) →
    reported_in (and_reported (cond k (fact ∷ facts) facts) hs) ≡ reported_in (and_reported facts (cond k (Happening.Reported fact ∷ hs) hs))
and_if true fact facts hs = refl
and_if false fact facts hs = refl

one_walk : (keep : Fact → Bool) (describe : Fact → TrackReports → TrackReports) →
    ((fact : Fact) (reported : TrackReports) → cond (keep fact) (after (Happening.Reported fact) reported) reported ≡ describe fact reported) →
    (facts : List Fact) (hs : List Happening) → reported_in (and_reported (filter keep facts) hs) ≡ after_facts describe facts (reported_in hs)
one_walk keep describe one [] hs = refl
one_walk keep describe one (fact ∷ facts) hs =
    and_if (keep fact) fact (filter keep facts) hs
    ∙ (one_walk keep describe one facts (cond (keep fact) (Happening.Reported fact ∷ hs) hs)
    ∙ ap (after_facts describe facts) (reported_if (keep fact) fact hs ∙ one fact (reported_in hs)))

pub reported_used : (facts : List Fact) (hs : List Happening) →
    reported_in (and_used facts hs) ≡ after_facts later_reported facts (after_facts earlier_reported facts (reported_in hs))
reported_used facts hs =
    one_walk (λ f. comes_later f.packet) later_reported (λ f reported. later_one f.group f.place f.moment f.packet reported) facts
    (and_reported (filter (λ f. not (comes_later f.packet)) facts) hs)
    ∙ ap (after_facts later_reported facts)
    (one_walk (λ f. not (comes_later f.packet)) earlier_reported (λ f reported. earlier_one f.group f.place f.moment f.packet reported) facts hs)

-- whether an authority whose speed is 0 was used
stop_or : (packet : Option MovementAuthority) (stopped : Bool) →
    option_map_or (λ p. p.speed == 0 || stopped) packet stopped ≡ (option_map_or (λ p. p.speed == 0) packet false || stopped)
stop_or None stopped = refl
stop_or (Some p) stopped = refl

turned_round : (one two three : Bool) → (one || (two || three)) ≡ ((two || one) || three)
turned_round true true three = refl
turned_round true false three = refl
turned_round false true three = refl
turned_round false false three = refl

stops_in : (facts : List Fact) (stopped : Bool) → after_facts after_stop facts stopped ≡ (list_any is_stop facts || stopped)
stops_in [] stopped = refl
stops_in (fact ∷ facts) stopped =
    stops_in facts (after_stop fact stopped)
    ∙ (ap (λ b. list_any is_stop facts || b) (stop_or (as_movement_authority fact.packet) stopped)
    ∙ turned_round (list_any is_stop facts) (is_stop fact) stopped)

all_earlier : (facts : List Fact) (walked : Walked) → after_facts after_earlier facts walked
    ≡ record walked { stopped = after_facts after_stop facts walked.stopped; reported = after_facts earlier_reported facts walked.reported }
all_earlier [] walked = refl
all_earlier (fact ∷ facts) walked = all_earlier facts (after_earlier fact walked)

all_later : (facts : List Fact) (walked : Walked) →
    after_facts after_later facts walked ≡ record walked { reported = after_facts later_reported facts walked.reported }
all_later [] walked = refl
all_later (fact ∷ facts) walked = all_later facts (after_later fact walked)

-- both walks over a message
pub both_walks : (facts : List Fact) (walked : Walked) (hs : List Happening) → walked.reported ≡ reported_in hs →
    after_facts after_later facts (after_facts after_earlier facts walked)
    ≡ record walked { stopped = list_any is_stop facts || walked.stopped; reported = reported_in (and_used facts hs) }
both_walks facts walked hs is =
    all_later facts (after_facts after_earlier facts walked)
    ∙ (ap (λ (w : Walked). record w { reported = after_facts later_reported facts w.reported }) (all_earlier facts walked)
    ∙ (λ i. record walked {
      stopped = stops_in facts walked.stopped i;
      reported = (ap (λ reported. after_facts later_reported facts (after_facts earlier_reported facts reported)) is ∙ sym (reported_used facts hs)) i;
    }))

-- ---- the forgetting mark

abbrev pub with_mark : Option ℤ → TrackReports → TrackReports
with_mark mark reported =
    record reported {
      restrictions = option_map_or (λ m. track.RestrictionEntry.Forgotten m ∷ reported.restrictions) mark reported.restrictions;
      mark = option_map_or (λ m. int_max m reported.mark) mark reported.mark;
    }

pub reported_marked : (mark : Option ℤ) (hs : List Happening) → reported_in (and_marked mark hs) ≡ with_mark mark (reported_in hs)
reported_marked None hs = refl
reported_marked (Some mark) hs = refl
