use Rattle.std.proofs.Common.{◌≡◌, ℕ, List, ap, sym, ◌∙◌}
use Rattle.std.proofs.lemmas.Result.{IfOk-weaker}
use Rattle.events.specs.declared.input.Input.TheVariants as inputs
use Rattle.track_picture.specs.declared.closings.Closings.{Closings}
use Rattle.track_picture.specs.Closings.{closings_in, closings_by, all_of}
use Rattle.track_picture.specs.Columns.{StandsForColumns}
use Rattle.track_picture.specs.StandsFor.{Life, StandsForLife}
use Rattle.track_picture.specs.Sentences.{with_groups}
use Rattle.track_picture.proofs.SameParts.{by_columns, same_moved, same_happened}
use Rattle.track_picture.proofs.state.TracksideOver.closings_by.Goals as goal

pub returns-in-Telegram-clause-closings : goal.returns-in-Telegram-clause-closings
returns-in-Telegram-clause-closings g c =
    IfOk-weaker c.closings_heard.result
    (λ (closings : Closings). (life : Life) → StandsForColumns g.T.ProfileStores.stores c.args.self.now life
    → all_of closings ≡ closings_by c.args.mode life.entries (inputs.Telegram c.as_slice.result.now))
    (λ (closings : Closings). (life : Life) → StandsForLife g.T.ProfileStores.stores c.args.self.now life
    → all_of closings ≡ closings_by c.args.mode life.entries c.args.input.now)
    (λ closings reported life s. reported life (by_columns life s)
    ∙ ap (λ (bytes : List ℕ). closings_by c.args.mode life.entries (inputs.Telegram bytes)) c.as_slice.ensures.value
    ∙ ap (closings_by c.args.mode life.entries) (sym c.in-Telegram.is))
    c.closings_heard.ensures.closings

pub returns-in-Odometer-clause-closings : goal.returns-in-Odometer-clause-closings
returns-in-Odometer-clause-closings g c life s =
    let mode = c.args.mode in
    let reading = c.in-Odometer.reading in
    c.closings_left.ensures life mode (by_columns life s)
    ∙ (λ i. closings_in life.entries (sym (same_moved life.entries reading) i)
    (with_groups mode life.entries (sym (same_moved life.entries reading) i) (sym (same_happened life.entries reading) i)).groups)
    ∙ ap (closings_by mode life.entries) (sym c.in-Odometer.is)
