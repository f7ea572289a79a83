-- What became of a balise group, as a kind with its texts, a direction, an announcement and a reaction (SUBSET-026,
-- 3.4, 3.4.4 and 3.16.2; the texts: this project's profile).
use Rattle.std.specs.Prelude.{ℕ, Bool, true, false, if◌then◌else◌, Option, Some, None, List, codes}
use Rattle.std.specs.Option.{option_map, option_map_or}
use Rattle.balise_groups.specs.declared.message.Broken.{Broken}
use Rattle.balise_groups.specs.declared.message.Cause.{Cause}
use Rattle.balise_groups.specs.declared.message.Cause.TheVariants as cause
use Rattle.balise_groups.specs.declared.message.Message.{Message}
use Rattle.linking.specs.declared.announcement.Announcement.{Announcement}
use Rattle.track_picture.specs.declared.closings.Closing.{Closing}
use Rattle.track_picture.specs.declared.closings.Closing.TheVariants as closing
use Rattle.track_picture.specs.declared.closings.MessageOutcome.{MessageOutcome}
use Rattle.track_picture.specs.declared.closings.MessageOutcome.TheVariants as outcome
use Rattle.track_picture.specs.Sentences.{direction_of}
use Rattle.vars.specs.declared.linking.LinkReaction.{LinkReaction}
use Rattle.vars.specs.declared.linking.LinkReaction.TheVariants as reaction
use Rattle.vars.specs.declared.linking.LinkOrientation.{LinkOrientation}
use Rattle.vars.specs.declared.linking.LinkOrientation.TheVariants as orientation
use Rattle.reasons.specs.declared.group_texts.GroupKind.{GroupKind}
use Rattle.reasons.specs.declared.group_texts.GroupKind.TheVariants as kind
use Rattle.reasons.specs.declared.group_texts.GroupReport.{GroupReport}

-- ---- a whole group, by the announcement that is meant, if there is one, and what linking asks for because of it

abbrev pub whole_as : Message → GroupKind → Option LinkOrientation → Option Announcement → LinkReaction → GroupReport
whole_as message what direction announced asks_for = record {
  kind = what;
  group = message.group;
  direction = direction;
  announcement = option_map (λ a. a.number) announced;
  reaction = asks_for;
}

-- an accepted group that isn't announced isn't linked, or linking isn't in use
abbrev pub accepted_kind : Bool → Option Announcement → GroupKind
accepted_kind linked (Some a) = kind.Announced
accepted_kind linked None = if linked then kind.LinkingUnused else kind.NotLinked

-- the direction of an accepted group is that by which its packets are valid; the wrong direction asks for a trip
-- (3.16.2.3)
abbrev pub whole_reported : Message → MessageOutcome → GroupReport
whole_reported message (outcome.Accepted announced) =
    whole_as message (accepted_kind message.linked announced) (direction_of message announced) announced reaction.NoReaction
whole_reported message outcome.NotAnnounced = whole_as message kind.NotAnnounced message.direction None reaction.NoReaction
whole_reported message (outcome.WrongWay a) = whole_as message kind.WrongWay message.direction (Some a) reaction.Trip
whole_reported message (outcome.TooEarly a) = whole_as message kind.TooEarly message.direction (Some a) a.reaction

-- ---- a broken group: one that isn't linked asks for the service brake, an announced one for its own reaction (3.16.2)

abbrev pub broken_kind : Cause → GroupKind
broken_kind cause.Missing = kind.Missing
broken_kind cause.Counter = kind.Counter
broken_kind cause.Mixed = kind.Mixed

abbrev pub broken_reaction : Bool → Option Announcement → LinkReaction
broken_reaction linked announced =
    if linked then option_map_or (λ a. a.reaction) announced reaction.NoReaction else reaction.ServiceBrake

abbrev pub broken_reported : Broken → Option Announcement → GroupReport
broken_reported b announced = record {
  kind = broken_kind b.cause;
  group = b.group;
  direction = None;
  announcement = option_map (λ a. a.number) announced;
  reaction = broken_reaction b.linked announced;
}

abbrev pub group_reported : Closing → GroupReport
group_reported (closing.Whole message outcome) = whole_reported message outcome
group_reported (closing.Broken b announced) = broken_reported b announced

-- ---- the texts: its name in JSON, a sentence, and the section of SUBSET-026

abbrev pub group_name_of : GroupKind → List ℕ
group_name_of kind.Announced = codes "announced"
group_name_of kind.NotLinked = codes "not_linked"
group_name_of kind.LinkingUnused = codes "linking_unused"
group_name_of kind.NotAnnounced = codes "not_announced"
group_name_of kind.WrongWay = codes "wrong_way"
group_name_of kind.TooEarly = codes "too_early"
group_name_of kind.Missing = codes "balise_missing"
group_name_of kind.Counter = codes "counters_differ"
group_name_of kind.Mixed = codes "telegrams_differ"

abbrev pub group_sentence_of : GroupKind → List ℕ
group_sentence_of kind.Announced = codes "accepted as announced"
group_sentence_of kind.NotLinked = codes "accepted, not being linked"
group_sentence_of kind.LinkingUnused = codes "accepted, linking not being in use"
group_sentence_of kind.NotAnnounced = codes "not used, since it is not announced while others are"
group_sentence_of kind.WrongWay = codes "not used, since it was passed in the wrong direction"
group_sentence_of kind.TooEarly = codes "not used, since it came before the place where it is announced"
group_sentence_of kind.Missing = codes "not used, since a balise of it was not read"
group_sentence_of kind.Counter = codes "not used, since its message counters do not fit"
group_sentence_of kind.Mixed = codes "not used, since its telegrams do not agree"

abbrev pub group_section_of : GroupKind → List ℕ
group_section_of kind.Announced = codes "3.4.4"
group_section_of kind.NotLinked = codes "3.4.4"
group_section_of kind.LinkingUnused = codes "3.4.4"
group_section_of kind.NotAnnounced = codes "3.4.4"
group_section_of kind.WrongWay = codes "3.16.2.3"
group_section_of kind.TooEarly = codes "3.16.2"
group_section_of kind.Missing = codes "3.16.2"
group_section_of kind.Counter = codes "3.16.2"
group_section_of kind.Mixed = codes "3.16.2"

-- its message is used
abbrev pub is_accepted : GroupKind → Bool
is_accepted kind.Announced = true
is_accepted kind.NotLinked = true
is_accepted kind.LinkingUnused = true
is_accepted what = false
