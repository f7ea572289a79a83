use Rattle.std.proofs.Common.{◌≡◌, ℕ, ◌∷◌, Some, rules, ap, subst, ◌∙◌}
use Rattle.units.specs.Stretches.{Span}
use Rattle.track_picture.specs.Sentences.{span_with, forgetting_mark}
use Rattle.mode_control.specs.History.{tracks}
use Rattle.mode_control.specs.Life.{track_of, length_by, grown}
use Rattle.mode_control.specs.StandsFor.{KnownModes, Knowledge, StandsForLife}
use Rattle.mode_control.proofs.Standing.{seen}
use Rattle.mode_control.proofs.state.SupervisionOver.forget.Goals as goal

pub returns-then-same-clause-stands : goal.returns-then-same-clause-stands
returns-then-same-clause-stands g c life event s at =
    let before = seen c.self.view_is s in
    let length = c.length-length.ensures ∙ ap (λ (k : KnownModes). length_by k.driver.train_data) before.parts_are in
    let same : c.args.seen.now.length ≡ c.length-length.result = search rules in
    let all = event.track ∷ tracks life.entries in
    let known : Knowledge g.row.T-Gradients.Denot g.row.T-Speeds.Denot = record { parts = c.self.inside.parts; track = c.forget_passed.new.self } in
    subst (λ (t : Span). StandsForLife g.T.ProfileStores.stores known
    (grown life (record event { track = record event.track { mark = Some (forgetting_mark t) } })))
    (at ∙ ap (λ (n : ℕ). span_with n all) (same ∙ length))
    (record {
      parts_are = before.parts_are;
      track_is = c.forget_passed.ensures.stands (track_of life) event.track before.track_is;
    })

pub returns-else-same-clause-stands : goal.returns-else-same-clause-stands
returns-else-same-clause-stands g c life event s at =
    let before = seen c.self.view_is s in
    let length = c.length-length.ensures ∙ ap (λ (k : KnownModes). length_by k.driver.train_data) before.parts_are in
    let all = event.track ∷ tracks life.entries in
    let known : Knowledge g.row.T-Gradients.Denot g.row.T-Speeds.Denot = record { parts = c.self.inside.parts; track = c.forget.new.self } in
    subst (λ (n : ℕ). StandsForLife g.T.ProfileStores.stores known
    (grown life (record event { track = record event.track { mark = Some (forgetting_mark (span_with n all)) } })))
    length
    (record {
      parts_are = before.parts_are;
      track_is = c.forget.ensures.stands (track_of life) event.track before.track_is;
    })
