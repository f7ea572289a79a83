-- The happenings of a life, in the order of one event (this project's profile): the clock or the movement; the
-- announced groups that the train has passed; the groups that closed, each with its verdict, its fix and then its
-- packets in rising number, as far as that matters; where the train is; the mode that is entered; the forgetting mark.
-- Lists have the newest first; the packets of a message stand in its order. A reader may take for granted that an entry
-- holds all that its event brought.
use Rattle.std.specs.Prelude.{ℕ, ℤ, Bool, not, ◌||◌, is_some, Option, Some, None, List, [], ◌∷◌, filter}
use Rattle.std.specs.Option.{option_map_or}
use Rattle.units.specs.Stretches.{Span}
use Rattle.linking.specs.declared.announcement.Announcement.{Announcement}
use Rattle.linking.specs.Judging.{meant}
use Rattle.linking.specs.Linking as linking
use Rattle.vars.specs.declared.group.GroupIdentity.{GroupIdentity}
use Rattle.packets.specs.declared.packet.Packet.{Packet}
use Rattle.packets.specs.Packets.{as_revocation, as_mode_profile}
use Rattle.events.specs.declared.input.Reading.{Reading}
use Rattle.mode_table.specs.declared.mode.Mode.{Mode}
use Rattle.odometry.specs.declared.fix.Fix.{Fix}
use Rattle.track_picture.specs.Entry.{TrackEntry, Fact, Outcome, facts_in}
use Rattle.track_picture.specs.Live.{Happening}
use Rattle.track_picture.specs.Parts.{links_in, moment_in}

abbrev pub and_ticked : Option ℕ → List Happening → List Happening
and_ticked None before = before
and_ticked (Some moment) before = Happening.Ticked moment ∷ before

abbrev pub and_moved : Option Reading → List Happening → List Happening
and_moved None before = before
and_moved (Some reading) before = Happening.Moved reading.movement ∷ before

abbrev pub and_missed : List Announcement → List Happening → List Happening
and_missed [] before = before
and_missed (a ∷ announcements) before = and_missed announcements (Happening.Linked (linking.LinkEntry.Missed a.number) ∷ before)

abbrev pub and_fixed : GroupIdentity → Option Fix → List Happening → List Happening
and_fixed group None before = before
and_fixed group (Some fix) before = Happening.Fixed group fix ∷ before

-- the verdict on a group. A broken one takes the first link of its group that is left then; an accepted one may make a
-- fix
abbrev pub and_judged : Outcome → List Happening → List Happening
and_judged (Outcome.Broken b) before =
    option_map_or (λ a. Happening.Linked (linking.LinkEntry.Reacted a.number) ∷ before) (meant (links_in before) b.group b.linked) before
and_judged (Outcome.Ignored message) before = before
and_judged (Outcome.Rejected message a) before = Happening.Linked (linking.LinkEntry.Reacted a.number) ∷ before
and_judged (Outcome.Accepted message announced fix facts) before =
    and_fixed message.group fix
    (Happening.Accepted message.group ∷ option_map_or (λ a. Happening.Linked (linking.LinkEntry.Accepted a.number) ∷ before) announced before)

-- packets one after another
abbrev pub and_reported : List Fact → List Happening → List Happening
and_reported [] before = before
and_reported (fact ∷ facts) before = and_reported facts (Happening.Reported fact ∷ before)

-- packets 66 and 80 come after all others of a group
abbrev pub comes_later : Packet → Bool
comes_later packet = is_some (as_revocation packet) || is_some (as_mode_profile packet)

-- those of a group
abbrev pub and_used : List Fact → List Happening → List Happening
and_used facts before =
    and_reported (filter (λ fact. comes_later fact.packet) facts) (and_reported (filter (λ fact. not (comes_later fact.packet)) facts) before)

abbrev pub and_closed : List Outcome → List Happening → List Happening
and_closed [] before = before
and_closed (outcome ∷ outcomes) before = and_used (facts_in outcome) (and_judged outcome (and_closed outcomes before))

abbrev pub and_seen : Option Span → List Happening → List Happening
and_seen None before = before
and_seen (Some train) before = Happening.Seen (record { moment = moment_in before; train = train }) ∷ before

abbrev pub and_entered : Option Mode → List Happening → List Happening
and_entered None before = before
and_entered (Some mode) before = Happening.Entered mode ∷ before

abbrev pub and_marked : Option ℤ → List Happening → List Happening
and_marked None before = before
and_marked (Some mark) before = Happening.Marked mark ∷ before

abbrev pub happenings : List TrackEntry → List Happening
happenings [] = []
happenings (event ∷ earlier) =
    and_marked event.mark
    (and_entered event.entered
    (and_seen event.train
    (and_closed event.used.groups (and_missed event.initial.missed (and_moved event.initial.reading (and_ticked event.initial.clock (happenings earlier)))))))
