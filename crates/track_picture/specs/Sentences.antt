-- What an input brings in a life of the track and of the train on it, sentence by sentence in the order of one event
-- (this project's profile; balise groups and their packets: SUBSET-026, 3.4, 3.4.4, 3.16.2 and 4.8). Distances and
-- places are centimetres, moments milliseconds. Lists of entries and of the groups that closed have the newest first;
-- the packets of a message stand in its order. A reader may take for granted that the entries are all that the life
-- brought before the event, that a clock's moment comes before what it bears on, and that an event closes at most two
-- groups. The driver's actions don't matter here.
use Rattle.std.specs.Prelude.{ℕ, ◌*◌, ℤ, pos, ◌-ℤ◌, Bool, true, false, not, ◌&&◌, Option, Some, None, is_some, List, [], ◌∷◌, map, filter, if◌then◌else◌}
use Rattle.std.specs.Option.{option_map, option_map_or, option_or}
use Rattle.units.specs.Stretches.{Span}
use Rattle.vars.specs.declared.linking.LinkOrientation.{LinkOrientation}
use Rattle.vars.specs.declared.linking.LinkOrientation.TheVariants as orientation
use Rattle.vars.specs.declared.packet_head.ValidityDirection.{ValidityDirection}
use Rattle.vars.specs.declared.packet_head.ValidityDirection.TheVariants as q_dir
use Rattle.packets.specs.declared.packet.Packet.{Packet}
use Rattle.packets.specs.declared.packet.Packet.TheVariants as packets
use Rattle.packets.specs.Packets.{number_of}
use Rattle.balise_groups.specs.declared.message.Closed.{Closed}
use Rattle.balise_groups.specs.declared.message.Closed.TheVariants as closed
use Rattle.balise_groups.specs.declared.message.Message.{Message}
use Rattle.balise_groups.specs.declared.assembler.Taken.{Taken}
use Rattle.balise_groups.specs.Groups as groups
use Rattle.balise_groups.specs.Groups.GroupEntry.{Read, Went}
use Rattle.linking.specs.declared.announcement.Announcement.{Announcement}
use Rattle.linking.specs.declared.judgement.GroupRead.{GroupRead}
use Rattle.linking.specs.declared.judgement.Judgement.{Judgement}
use Rattle.linking.specs.declared.judgement.Verdict.{Verdict}
use Rattle.linking.specs.declared.judgement.Verdict.TheVariants.{Accept, Ignore, Reaction}
use Rattle.linking.specs.Linking.{is_any, is_passed_by, misses}
use Rattle.linking.specs.Judging.{judgement, broken_effect}
use Rattle.mode_table.specs.declared.mode.Mode.{Mode}
use Rattle.mode_table.specs.Packets.{uses}
use Rattle.odometry.specs.Place as odometry
use Rattle.odometry.specs.Sums.{Sums}
use Rattle.odometry.specs.declared.fix.Fix.{Fix}
use Rattle.track_picture.specs.declared.happened.Happened.{Happened}
use Rattle.events.specs.declared.input.Input as inputs
use Rattle.events.specs.declared.input.Input.TheVariants.{Telegram, Odometer, Clock, Driver}
use Rattle.events.specs.declared.input.Reading.{Reading}
use Rattle.track_picture.specs.Bytes.{telegram_in}
use Rattle.track_store.specs.Profiles.{is_known}
use Rattle.authority.specs.Entries.{accepted as granted}
use Rattle.track_picture.specs.Entry.{TrackEntry, InputEffect, Used, Outcome, Fact, nothing, blank, nothing_happened, asking_for, added}
use Rattle.track_picture.specs.Entry.Outcome.{Broken, Ignored, Rejected, Accepted}
use Rattle.track_picture.specs.History.{place_of, groups_of, links_of, moment_of, authorities, gradients_of, speeds_of}

-- ---- first what the input itself does: a movement, then the path and the announced groups that the train has passed;
-- or a telegram; or a moment

abbrev pub entry_with : InputEffect → TrackEntry
entry_with initial = record blank { initial = initial }

abbrev pub with_path : List TrackEntry → InputEffect → InputEffect
with_path entries initial = record initial { heard = Some (Went (place_of (entry_with initial ∷ entries)).sums.path) }

-- the announced groups left that the train has passed
abbrev pub passed : List TrackEntry → InputEffect → List Announcement
passed entries initial = filter (is_passed_by (odometry.min_front (place_of (entry_with initial ∷ entries)))) (links_of entries).left

abbrev pub moved : List TrackEntry → Reading → InputEffect
moved entries reading =
    let went = with_path entries (record nothing { reading = Some reading }) in record went { missed = passed entries went }

abbrev pub heard : List TrackEntry → List ℕ → InputEffect
heard entries bytes =
    record nothing { heard = option_map (λ t. Read (record { telegram = t; sums = (place_of entries).sums })) (telegram_in bytes) }

abbrev pub initial : List TrackEntry → inputs.Input → InputEffect
initial entries (Telegram bytes) = heard entries bytes
initial entries (Odometer reading) = moved entries reading
initial entries (Clock moment) = record nothing { clock = Some moment }
initial entries (Driver action) = nothing

-- what a movement brings about: it is an overrun where it leaves the range, and the missed groups ask for something
abbrev pub happened_by : List TrackEntry → Reading → Happened
happened_by entries reading =
    record {
      overrun = not (odometry.stays_in_range (place_of entries) reading.movement);
      requested = misses (links_of entries).has_missed (moved entries reading).missed;
    }

abbrev pub happened_first : List TrackEntry → inputs.Input → Happened
happened_first entries (Telegram bytes) = nothing_happened
happened_first entries (Odometer reading) = happened_by entries reading
happened_first entries (Clock moment) = nothing_happened
happened_first entries (Driver action) = nothing_happened

-- ---- then the groups that closed: the one that was ended, and after it the one that is whole. Each is judged by
-- linking, by the place of the train at its reading

abbrev pub group_read : odometry.KnownPlace → Message → GroupRead
group_read place message =
    record { group = message.group; linked = message.linked; direction = message.direction; place = odometry.place_at place.fix message.sums }

abbrev pub judged : List TrackEntry → Message → Judgement
judged entries message = judgement (links_of entries) (group_read (place_of entries) message)

-- ---- an accepted group makes its fix: an announced one where it was announced, another one at its own place, but only
-- while the track is free of all that lies at known places: no group is announced, no authority is stored, and no
-- centimetre has a gradient or a static speed

abbrev pub own_place : odometry.KnownPlace → Message → ℤ
own_place place message = odometry.estimate_at place.fix message.sums

abbrev pub fix_at : Message → ℤ → ℕ → Fix
fix_at message at accuracy = record { at = at; accuracy = accuracy; sums = message.sums; missed = message.missed }

abbrev pub is_free : List TrackEntry → Bool
is_free entries =
    not (is_any (links_of entries).left) && not (is_some (granted (authorities entries)))
    && not (is_known (gradients_of entries).value) && not (is_known (speeds_of entries).value)

-- a fix that would lie too far isn't made
abbrev pub made : Sums → Fix → Option Fix
made now fix = if odometry.is_made now fix then Some fix else None

abbrev pub fix_of : odometry.KnownPlace → Bool → Message → Option Announcement → Option Fix
fix_of place free message (Some a) = made place.sums (fix_at message a.place (100 * a.accuracy))
fix_of place free message None = if free then made place.sums (fix_at message (own_place place message) 0) else None

-- ---- then those packets of an accepted group are used that the mode before the event uses (4.8) and that are valid in
-- the direction in which the group was passed (3.4). That is by its balises, or else by its announcement

-- a line of the table
abbrev pub line : Bool → Bool → Bool → Option LinkOrientation → Bool
line nominal reverse unknown (Some orientation.Nominal) = nominal
line nominal reverse unknown (Some orientation.Reverse) = reverse
line nominal reverse unknown None = unknown

-- Q_DIR; in each line, by the direction in which the group was passed: nominal, reverse, not known
abbrev pub is_valid : ValidityDirection → Option LinkOrientation → Bool
is_valid q_dir.Both = line true true true
is_valid q_dir.Nominal = line true false false
is_valid q_dir.Reverse = line false true false

-- the direction in which a packet is valid; None of one that isn't known, which isn't used in any way
abbrev pub valid_in : Packet → Option ValidityDirection
valid_in (packets.NationalValues p) = Some p.direction
valid_in (packets.Linking p) = Some p.direction
valid_in (packets.MovementAuthority p) = Some p.direction
valid_in (packets.Gradients p) = Some p.direction
valid_in (packets.StaticSpeeds p) = Some p.direction
valid_in (packets.LevelTransition p) = Some p.direction
valid_in (packets.SpeedRestriction p) = Some p.direction
valid_in (packets.RestrictionRevocation p) = Some p.direction
valid_in (packets.ModeProfile p) = Some p.direction
valid_in (packets.Other p) = None

abbrev pub is_used : Mode → Option LinkOrientation → Packet → Bool
is_used mode direction packet =
    uses mode (number_of packet) && option_map_or (λ valid. is_valid valid direction) (valid_in packet) false

abbrev pub direction_of : Message → Option Announcement → Option LinkOrientation
direction_of message announced = option_or message.direction (option_map (λ a. a.direction) announced)

-- distances count from the place of the group's fix, and where none was made from the group's own place
abbrev pub place_by : ℤ → Option Fix → ℤ
place_by own None = own
place_by own (Some fix) = fix.at

-- ---- an accepted group in its order: its announcement goes, and those before it; then it makes its fix; then its packets
-- are used, whose distances count from that fix. All by the life with the event as it is written so far, the acceptance
-- included

abbrev pub fix_made : List TrackEntry → Message → Option Announcement → Option Fix
fix_made now message announced = fix_of (place_of now) (is_free now) message announced

abbrev pub facts_used : Mode → List TrackEntry → Message → Option Announcement → Option Fix → List Fact
facts_used mode now message announced fix =
    let place = place_by (own_place (place_of now) message) fix in
    map (λ packet. record { group = message.group; place = place; moment = moment_of now; packet = packet })
    (filter (is_used mode (direction_of message announced)) message.packets)

abbrev pub accepted : Mode → List TrackEntry → Message → Option Announcement → Outcome
accepted mode now message announced =
    let fix = fix_made now message announced in Accepted message announced fix (facts_used mode now message announced fix)

-- ---- the outcome of a group (3.4.4, 3.16.2 and 4.8): first its verdict is written, which takes announcements away, and
-- then the outcome, by the life with the event as it is written then

abbrev pub outcome_at_first : Message → Verdict → Outcome
outcome_at_first message (Accept announced) = Accepted message announced None []
outcome_at_first message Ignore = Ignored message
outcome_at_first message (Reaction a) = Rejected message a

abbrev pub outcome : Mode → List TrackEntry → Message → Verdict → Outcome
outcome mode now message (Accept announced) = accepted mode now message announced
outcome mode now message Ignore = Ignored message
outcome mode now message (Reaction a) = Rejected message a

abbrev pub after_judgement : Mode → List TrackEntry → InputEffect → Used → Message → Judgement → Used
after_judgement mode entries initial used message j =
    let asking = asking_for j.effect used in
    let now = record blank { initial = initial; used = added (outcome_at_first message j.verdict) asking } ∷ entries in
    added (outcome mode now message j.verdict) asking

abbrev pub after_group : Mode → List TrackEntry → InputEffect → Used → Closed → Used
after_group mode entries initial used (closed.Broken b) =
    added (Broken b) (asking_for (broken_effect (links_of (record blank { initial = initial; used = used } ∷ entries)) b.group b.linked) used)
after_group mode entries initial used (closed.Whole message) =
    after_judgement mode entries initial used message (judged (record blank { initial = initial; used = used } ∷ entries) message)

abbrev pub with_closed : Mode → List TrackEntry → InputEffect → Option Closed → Used → Used
with_closed mode entries initial None used = used
with_closed mode entries initial (Some group) used = after_group mode entries initial used group

-- what was heard closes at most two groups
abbrev pub closed_by : groups.KnownGroups → Option groups.GroupEntry → Taken
closed_by known None = record { ended = None; whole = None }
closed_by known (Some (Read reading)) = groups.taken_by reading known
closed_by known (Some (Went path)) = record { ended = groups.ended_by path known; whole = None }

abbrev pub with_groups : Mode → List TrackEntry → InputEffect → Happened → Used
with_groups mode entries initial happened =
    let closed = closed_by (groups_of entries) initial.heard in
    with_closed mode entries initial closed.whole (with_closed mode entries initial closed.ended (record { groups = []; happened = happened }))

abbrev pub used_by : Mode → List TrackEntry → inputs.Input → Used
used_by mode entries input = with_groups mode entries (initial entries input) (happened_first entries input)

-- what an input brings, in a mode
abbrev pub received : Mode → List TrackEntry → inputs.Input → TrackEntry
received mode entries input = record blank { initial = initial entries input; used = used_by mode entries input }

-- ---- then the timers of the authority see where the train is, and national values and the level that are announced
-- come into force where the maximum safe front has reached their places

-- where a train of some length is; 0 where the length isn't known
abbrev pub span_with : ℕ → List TrackEntry → Span
span_with length entries = odometry.stretch (place_of entries) length

-- ---- at last, once the mode is known, the track is forgotten that lies more than a kilometre behind the minimum safe
-- rear

abbrev pub forgetting_mark : Span → ℤ
forgetting_mark train = train.rear -ℤ pos 100_000

-- a power-up is an exact fix at 0, and the track is forgotten behind the minimum safe rear there too
abbrev pub powered_up : ℕ → TrackEntry
powered_up length = record blank { mark = Some (forgetting_mark (span_with length [])) }
