use Rattle.std.proofs.Common.{refl, ap, ◌∙◌}
use Rattle.track_picture.specs.Columns.{after_stop}
use Rattle.track_picture.specs.Steps.{fact_of}
use Rattle.track_picture.specs.StandsFor.{KnownTrack}
use Rattle.track_picture.proofs.parts.Parts.describe.Goals as goal

pub returns : goal.returns
returns c walked s =
    let parts = c.self.view_is ∙ s in
    let fact = fact_of c.args.used.now c.args.packet.now in
    let values = c.take.ensures walked.life.kept walked.reported.values (ap (λ (k : KnownTrack). k.national) parts) in
    let links = c.take-2.ensures walked.reported.links (ap (λ (k : KnownTrack). k.links) parts) in
    let grants = c.take-3.ensures walked.reported.grants (ap (λ (k : KnownTrack). k.authority) parts) in
    let stopped = c.note_stop.ensures fact refl ∙ ap (λ (k : KnownTrack). after_stop fact k.stopped) parts in
    let areas = c.clear.ensures fact walked.reported.areas refl (ap (λ (k : KnownTrack). k.areas) parts) in
    let level = c.take-4.ensures walked.reported.levels (ap (λ (k : KnownTrack). k.level) parts) in
    (λ i. record (parts i) { national = values i; links = links i; authority = grants i; stopped = stopped i; areas = areas i; level = level i })
