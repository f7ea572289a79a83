use Rattle.std.proofs.Common.{ℕ, None, [], ap, subst, ◌∙◌}
use Rattle.track_picture.specs.Entry.{blank}
use Rattle.track_picture.specs.Sentences.{powered_up}
use Rattle.track_picture.specs.StandsFor.{Life as TrackLife, StandsForLife as StandsForTrack, grown as track_grown}
use Rattle.mode_control.specs.Entry.{initial}
use Rattle.mode_control.specs.Life.{Life, length_by, grown}
use Rattle.mode_control.specs.StandsFor.{KnownModes, Knowledge, StandsForLife}
use Rattle.mode_control.proofs.Standing.{seen}
use Rattle.mode_control.proofs.state.SupervisionOver.set_out.Goals as goal

pub returns-clause-stands : goal.returns-clause-stands
returns-clause-stands g c kept cold s =
    let before = seen c.self.view_is s in
    let empty : Life = record { kept = kept; cold = cold; entries = [] } in
    let track : TrackLife = record { kept = kept.national; entries = [] } in
    let length = c.length.ensures ∙ ap (λ (k : KnownModes). length_by k.driver.train_data) before.parts_are in
    let is = before.track_is in
    let bare : StandsForTrack g.T.ProfileStores.stores c.self.inside.track (track_grown track blank) =
    record { parts_are = is.parts_are; restrictions_are = is.restrictions_are; gradients_are = is.gradients_are; speeds_are = is.speeds_are } in
    let known : Knowledge g.row.T-Gradients.Denot g.row.T-Speeds.Denot = record { parts = c.self.inside.parts; track = c.forget.new.self } in
    subst (λ (n : ℕ). StandsForLife g.T.ProfileStores.stores known (grown empty (initial (powered_up n) None)))
    length
    (record { parts_are = before.parts_are; track_is = c.forget.ensures.stands track blank bare })
