use Rattle.std.proofs.Common.{ap, ◌∙◌}
use Rattle.track_picture.specs.StandsFor.{KnownTrack}
use Rattle.track_picture.proofs.parts.Parts.describe_later.Goals as goal

pub returns : goal.returns
returns c walked s =
    let parts = c.self.view_is ∙ s in
    let areas = c.take.ensures walked.reported.areas (ap (λ (k : KnownTrack). k.areas) parts) in
    (λ i. record (parts i) { areas = areas i })
