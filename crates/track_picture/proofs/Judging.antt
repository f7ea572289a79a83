-- A group that is judged, and no more: what the parts know then.
use Rattle.std.proofs.Common.{◌≡◌, Option, refl, List}
use Rattle.balise_groups.specs.declared.message.Message.{Message}
use Rattle.linking.specs.declared.announcement.Announcement.{Announcement}
use Rattle.linking.specs.declared.effect.Effect.{Effect}
use Rattle.linking.specs.declared.judgement.Verdict.{Verdict}
use Rattle.linking.specs.declared.judgement.Verdict.TheVariants.{Accept, Ignore, Reaction}
use Rattle.linking.specs.Linking.{known as known_links}
use Rattle.linking.specs.Judging.{after_verdict}
use Rattle.national.specs.InForce as national
use Rattle.national.specs.InForce.{NationalEntry}
use Rattle.track_picture.specs.Entry.{InputEffect, Used, added, asking, asking_for}
use Rattle.track_picture.specs.Sentences.{outcome_at_first}
use Rattle.track_picture.specs.StandsFor.{KnownTrack, Life, grown_so_far}
use Rattle.track_picture.specs.Columns.{TrackReports, known_by, after_country, after_judging}

pub not_entered : (verdict : Verdict) (message : Message) (entries : List NationalEntry) → ((a : Option Announcement) → verdict ≡ Accept a → ⊥) →
    after_country verdict message entries ≡ entries
not_entered (Accept announced) message entries isnt = absurd (isnt announced refl)
not_entered Ignore message entries isnt = refl
not_entered (Reaction a) message entries isnt = refl

abbrev pub as_judged : Life → InputEffect → Used → TrackReports → Effect → Message → Verdict → KnownTrack
as_judged life initial used reported effect message verdict =
    record (known_by (grown_so_far life initial used) reported) {
      links = known_links (after_verdict verdict reported.links);
      national = national.known life.kept (after_country verdict message reported.values);
      happened = asking used.happened effect;
    }

pub is_judged : (life : Life) (initial : InputEffect) (used : Used) (reported : TrackReports) (effect : Effect) (message : Message) (verdict : Verdict) →
    as_judged life initial used reported effect message verdict
    ≡ known_by (grown_so_far life initial (added (outcome_at_first message verdict) (asking_for effect used))) (after_judging verdict message reported)
is_judged life initial used reported effect message (Accept announced) = refl
is_judged life initial used reported effect message Ignore = refl
is_judged life initial used reported effect message (Reaction a) = refl
