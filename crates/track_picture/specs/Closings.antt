-- What became of each balise group that an input closes, as an investigator asks for it, read off what the groups of
-- the event did (SUBSET-026, 3.4, 3.4.4 and 3.16.2). Groups stand in the order in which they closed; lists of outcomes
-- and of entries have the newest first. A reader may take for granted that the entries are all that the life brought
-- before the event.
use Rattle.std.specs.Prelude.{Option, Some, None, if◌then◌else◌, List, [], ◌∷◌, ◌++◌}
use Rattle.balise_groups.specs.declared.message.Closed.{Closed}
use Rattle.balise_groups.specs.declared.message.Closed.TheVariants as closed
use Rattle.balise_groups.specs.declared.message.Message.{Message}
use Rattle.events.specs.declared.input.Input.{Input}
use Rattle.linking.specs.declared.announcement.Announcement.{Announcement}
use Rattle.linking.specs.Judging.{judgement, is_passed_wrongly, meant}
use Rattle.linking.specs.Linking.{KnownLinks}
use Rattle.mode_table.specs.declared.mode.Mode.{Mode}
use Rattle.odometry.specs.Place as odometry
use Rattle.track_picture.specs.declared.closings.Closing.{Closing}
use Rattle.track_picture.specs.declared.closings.Closing.TheVariants as closing
use Rattle.track_picture.specs.declared.closings.Closings.{Closings}
use Rattle.track_picture.specs.declared.closings.MessageOutcome.{MessageOutcome}
use Rattle.track_picture.specs.declared.closings.MessageOutcome.TheVariants as reported
use Rattle.track_picture.specs.Entry.{TrackEntry, InputEffect, Outcome, blank, nothing_happened}
use Rattle.track_picture.specs.History.{links_of}
use Rattle.track_picture.specs.Sentences.{initial, used_by, group_read, outcome_at_first}

-- ---- one group, by what it did and by the links that were left before it

-- one that is announced and wasn't used: it was passed in the wrong direction (3.16.2.3), or else found too early
-- (3.16.2)
abbrev pub why_rejected : Message → Announcement → MessageOutcome
why_rejected message a = if is_passed_wrongly message.direction a then reported.WrongWay a else reported.TooEarly a

-- a broken group takes the announcement with it that is meant
abbrev pub closing_of : KnownLinks → Outcome → Closing
closing_of links (Outcome.Broken b) = closing.Broken b (meant links b.group b.linked)
closing_of links (Outcome.Ignored message) = closing.Whole message reported.NotAnnounced
closing_of links (Outcome.Rejected message a) = closing.Whole message (why_rejected message a)
closing_of links (Outcome.Accepted message announced fix facts) = closing.Whole message (reported.Accepted announced)

-- ---- all groups of an event, each by the links that those before it have left

abbrev pub links_after : List TrackEntry → InputEffect → List Outcome → KnownLinks
links_after entries initial outcomes =
    links_of (record blank { initial = initial; used = record { groups = outcomes; happened = nothing_happened } } ∷ entries)

abbrev pub closings_in : List TrackEntry → InputEffect → List Outcome → List Closing
closings_in entries initial [] = []
closings_in entries initial (outcome ∷ earlier) =
    closings_in entries initial earlier ++ closing_of (links_after entries initial earlier) outcome ∷ []

-- those that an input closes as the next event, in a mode
abbrev pub closings_by : Mode → List TrackEntry → Input → List Closing
closings_by mode entries input = closings_in entries (initial entries input) (used_by mode entries input).groups

-- the one that the input ended, if it ended one, and after it its own
abbrev pub listed : Option Closing → List Closing
listed None = []
listed (Some one) = one ∷ []

abbrev pub all_of : Closings → List Closing
all_of closings = listed closings.ended ++ listed closings.whole

-- ---- what lies between: a group that closes next, by the links and the place before it

abbrev pub outcome_by : KnownLinks → odometry.KnownPlace → Closed → Outcome
outcome_by links place (closed.Broken b) = Outcome.Broken b
outcome_by links place (closed.Whole message) = outcome_at_first message (judgement links (group_read place message)).verdict

abbrev pub closing_as : KnownLinks → odometry.KnownPlace → Closed → Closing
closing_as links place group = closing_of links (outcome_by links place group)

abbrev pub closing_if : KnownLinks → odometry.KnownPlace → Option Closed → Option Closing
closing_if links place None = None
closing_if links place (Some group) = Some (closing_as links place group)
