use Rattle.std.proofs.Common.{ℕ, ◌∷◌, List, Option, None, Some, ap, subst, ◌∙◌}
use Rattle.mode_table.specs.declared.level.TrainLevel.{TrainLevel}
use Rattle.areas.specs.Levels.{coming}
use Rattle.track_picture.specs.Entry.{TrackEntry}
use Rattle.track_picture.specs.History.{announced_level}
use Rattle.track_picture.specs.Sentences.{span_with}
use Rattle.mode_control.specs.Entry.{initial}
use Rattle.mode_control.specs.History.{tracks}
use Rattle.mode_control.specs.Life.{track_of, length_by, grown}
use Rattle.mode_control.specs.StandsFor.{KnownModes, StandsForLife}
use Rattle.mode_control.proofs.Standing.{seen}
use Rattle.mode_control.proofs.state.SupervisionOver.see.Goals as goal

pub returns-clause-level : goal.returns-clause-level
returns-clause-level g c life reported deed s =
    let before = seen c.self.view_is s in
    let length = c.length-length.ensures ∙ ap (λ (k : KnownModes). length_by k.driver.train_data) before.parts_are in
    let all : List TrackEntry = record reported { train = None; entered = None } ∷ tracks life.entries in
    c.look-level.ensures.level (track_of life) reported before.track_is
    ∙ ap (λ (n : ℕ). coming (span_with n all).max_front (announced_level all)) length

pub returns-clause-stands : goal.returns-clause-stands
returns-clause-stands g c life reported deed s =
    let before = seen c.self.view_is s in
    let length = c.length-length.ensures ∙ ap (λ (k : KnownModes). length_by k.driver.train_data) before.parts_are in
    let all : List TrackEntry = record reported { train = None; entered = None } ∷ tracks life.entries in
    let level = c.look-level.ensures.level (track_of life) reported before.track_is
    ∙ ap (λ (n : ℕ). coming (span_with n all).max_front (announced_level all)) length in
    subst (λ (x : ℕ × Option TrainLevel). StandsForLife g.T.ProfileStores.stores
    (record { parts = c.come_in.new.self; track = c.look-level.new.self })
    (grown life (record (initial (record reported { train = Some (span_with x.0 all); entered = None }) deed) { level = x.1 })))
    (λ i. (length i, level i))
    (record {
      parts_are = c.come_in.ensures life reported (Some (span_with c.length-length.result all)) deed before.parts_are;
      track_is = c.look-level.ensures.stands (track_of life) reported before.track_is;
    })
