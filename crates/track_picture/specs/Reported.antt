-- A scaffold for proofs alone, as Columns: what the packets of a message bring to the parts, walk by walk (this
-- project's profile). Packets are taken in rising number: the revocations (packet 66) come after the restrictions
-- (packet 65), the mode areas (packet 80) after the authorities (packet 12), and all others go to parts of their own.
-- Places are centimetres.
use Rattle.std.specs.Prelude.{◌≡◌, Bool}
use Rattle.track_store.specs.Facts as profiles
use Rattle.track_store.specs.Restrictions as track
use Rattle.track_picture.specs.Entry.{Fact}
use Rattle.track_picture.specs.Columns.{TrackReports, known_by, after_stop, earlier_reported, later_reported}
use Rattle.track_picture.specs.StandsFor.{KnownTrack, Knowledge, Life}
use Rattle.track_picture.specs.Stores.{Stores}

-- the life up to the message; whether an authority whose speed is 0 was used; and what the parts were reported so far
pub record Walked : Type 0 where
  pub life : Life
  pub stopped : Bool
  pub reported : TrackReports

abbrev pub known_of : Walked → KnownTrack
known_of walked = record (known_by walked.life walked.reported) { stopped = walked.stopped }

-- the state is what was taken
pub record IsReported {G S : Type 0} (stores : Stores G S) (known : Knowledge G S) (walked : Walked) : Type 0 where
  pub parts_are : known.parts ≡ known_of walked
  pub restrictions_are : known.restrictions.track ≡ track.in_force walked.reported.restrictions
  pub mark_is : track.mark_of walked.reported.restrictions ≡ walked.reported.mark
  pub gradients_are : stores.gradients known.gradients ≡ profiles.profile_of (record { mark = walked.reported.mark; facts = walked.reported.gradients })
  pub speeds_are : stores.speeds known.speeds ≡ profiles.profile_of (record { mark = walked.reported.mark; facts = walked.reported.speeds })

-- what a packet brings in the first walk
abbrev pub after_earlier : Fact → Walked → Walked
after_earlier fact walked =
    record walked { stopped = after_stop fact walked.stopped; reported = earlier_reported fact walked.reported }

-- what a packet brings in the second walk
abbrev pub after_later : Fact → Walked → Walked
after_later fact walked = record walked { reported = later_reported fact walked.reported }
