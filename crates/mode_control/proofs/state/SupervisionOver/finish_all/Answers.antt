use Rattle.std.proofs.Common.{Option, Some, None, [], ◌∷◌, sym, subst}
use Rattle.mode_table.specs.declared.level.TrainLevel.{TrainLevel}
use Rattle.units.specs.Stretches.{Span}
use Rattle.track_picture.specs.Entry.{TrackEntry}
use Rattle.mode_control.specs.Entry.{SupervisionEntry, initial}
use Rattle.mode_control.specs.Life.{Life, grown}
use Rattle.mode_control.specs.Sentences.{the_train_is_seen, the_mode_changes, the_calls_are_settled, written}
use Rattle.mode_control.specs.StandsFor.{StandsForLife}
use Rattle.mode_control.proofs.state.SupervisionOver.finish_all.Goals as goal

-- an event that has seen the train there, and that level
abbrev seen_at : SupervisionEntry → Span × Option TrainLevel → SupervisionEntry
seen_at event x = record event { track = record event.track { train = Some x.0 }; level = x.1 }

abbrev turned_at : Life → SupervisionEntry → Span × Option TrainLevel → SupervisionEntry
turned_at life event x = written (the_mode_changes ∷ the_calls_are_settled ∷ []) life (seen_at event x)

pub returns-clause-stands : goal.returns-clause-stands
returns-clause-stands g c life reported deed began =
    let began_with : TrackEntry = record reported { mark = None } in
    let event : SupervisionEntry = initial (record began_with { train = None; entered = None }) deed in
    let train = c.see-seen.ensures.train life event began in
    let level = c.see-seen.ensures.level life began_with deed began in
    let saw = c.see-seen.ensures.stands life began_with deed began in
    let turned = subst (λ (x : Span × Option TrainLevel). StandsForLife g.T.ProfileStores.stores c.turn.new.self
    (grown life (turned_at life event x)))
    (λ i. (train i, level i))
    (c.turn.ensures.stands life began_with deed
    (subst (λ (x : Span × Option TrainLevel). StandsForLife g.T.ProfileStores.stores c.see-seen.new.self
    (grown life (seen_at event x))) (λ i. (sym train i, sym level i)) saw)) in
    c.forget.ensures.stands life (written (the_train_is_seen ∷ the_mode_changes ∷ the_calls_are_settled ∷ []) life event) turned
    (c.see-seen.ensures.length life event began)
