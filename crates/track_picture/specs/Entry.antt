-- The record of what one event of a life brought of the track and of the train on it, its power-up included (this
-- project's profile). Its fields are the columns that the sentences of an event write, in their order. Distances and
-- places are centimetres, moments milliseconds.
use Rattle.std.specs.Prelude.{ℕ, ℤ, false, Option, None, List, [], ◌∷◌}
use Rattle.units.specs.Stretches.{Span}
use Rattle.vars.specs.declared.group.GroupIdentity.{GroupIdentity}
use Rattle.packets.specs.declared.packet.Packet.{Packet}
use Rattle.balise_groups.specs.declared.message.Broken.{Broken as BrokenGroup}
use Rattle.balise_groups.specs.declared.message.Message.{Message}
use Rattle.balise_groups.specs.Groups as groups
use Rattle.linking.specs.declared.announcement.Announcement.{Announcement}
use Rattle.linking.specs.declared.effect.Effect.{Effect}
use Rattle.linking.specs.Linking.{no_effect, combined_with}
use Rattle.mode_table.specs.declared.mode.Mode.{Mode}
use Rattle.odometry.specs.declared.fix.Fix.{Fix}
use Rattle.events.specs.declared.input.Reading.{Reading}
use Rattle.track_picture.specs.declared.happened.Happened.{Happened}

-- a packet that was used, its group, the place from which its distances count, and the moment
pub record Fact : Type 0 where
  pub group : GroupIdentity
  pub place : ℤ
  pub moment : ℕ
  pub packet : Packet

-- what came of a group that closed; of an accepted one also its announcement, if it had one, the fix that it made, if
-- it made one, and those of its packets that were used, in the order of the message
pub data Outcome : Type 0 where
  Broken : BrokenGroup → Outcome  -- it gave no message
  Ignored : Message → Outcome  -- it isn't announced while others are
  Rejected : Message → Announcement → Outcome  -- it was found too early or in the wrong direction
  Accepted : Message → Option Announcement → Option Fix → List Fact → Outcome

-- the packets of a group that were used; only an accepted group has some
abbrev pub facts_in : Outcome → List Fact
facts_in (Outcome.Broken b) = []
facts_in (Outcome.Ignored message) = []
facts_in (Outcome.Rejected message a) = []
facts_in (Outcome.Accepted message announced fix facts) = facts

-- what the input itself did
pub record InputEffect : Type 0 where
  pub clock : Option ℕ  -- the moment that the clock reported
  pub reading : Option Reading  -- what the odometer reported
  pub heard : Option groups.GroupEntry  -- a telegram that was read, or the path that the life has come to
  pub missed : List Announcement  -- the announced groups that the train has passed

-- what the groups did that closed, the newest first, and what the event has brought about for the train
pub record Used : Type 0 where
  pub groups : List Outcome
  pub happened : Happened

pub record TrackEntry : Type 0 where
  pub initial : InputEffect
  pub used : Used
  pub train : Option Span  -- where the train stands once the groups are used
  pub entered : Option Mode  -- the mode that was entered, if another one was
  pub mark : Option ℤ  -- the track before this place is forgotten

-- ---- what it has brought about

abbrev pub nothing_happened : Happened
nothing_happened = record { overrun = false; requested = no_effect }

-- linking asks for something more
abbrev pub asking : Happened → Effect → Happened
asking happened effect = record happened { requested = combined_with happened.requested effect }

abbrev pub no_groups : Used
no_groups = record { groups = []; happened = nothing_happened }

abbrev pub asking_for : Effect → Used → Used
asking_for effect used = record used { happened = asking used.happened effect }

-- one more group closed
abbrev pub added : Outcome → Used → Used
added outcome used = record used { groups = outcome ∷ used.groups }

-- ---- an event of which no column is written yet

abbrev pub nothing : InputEffect
nothing = record { clock = None; reading = None; heard = None; missed = [] }

abbrev pub blank : TrackEntry
blank = record { initial = nothing; used = no_groups; train = None; entered = None; mark = None }
