use Rattle.std.proofs.Common.{◌≡◌, IsTrue, false, Option, Some, None, [], ◌∷◌, rules, sym, ap, subst, ◌∙◌}
use Rattle.std.specs.Option.{option_map_or}
use Rattle.authority.specs.declared.answers.End.{End}
use Rattle.authority.specs.Untimed.{IsUntimed}
use Rattle.authority.proofs.Untimed.{same_end}
use Rattle.mode_table.specs.declared.level.TrainLevel.{TrainLevel}
use Rattle.mode_table.specs.Rows.{next_mode}
use Rattle.units.specs.Stretches.{Span}
use Rattle.areas.specs.Levels.{coming}
use Rattle.track_picture.specs.Entry.{TrackEntry}
use Rattle.track_picture.specs.Sentences.{span_with, forgetting_mark}
use Rattle.track_picture.specs.History.{authorities}
use Rattle.track_picture.specs.StandsFor.{KnownTrack}
use Rattle.track_picture.proofs.Still.{looked}
use Rattle.mode_control.specs.Conditions.{conditions, is_beyond, is_beyond_end}
use Rattle.mode_control.specs.Entry.{SupervisionEntry, initial}
use Rattle.mode_control.specs.History.{tracks, mode_of}
use Rattle.mode_control.specs.Life.{track_of, length_by, grown}
use Rattle.mode_control.specs.Resting.{Rests}
use Rattle.mode_control.specs.Sentences.{span_of, level_in, the_train_is_seen, the_mode_changes, the_calls_are_settled, written}
use Rattle.mode_control.specs.StandsFor.{KnownModes, Knowledge, StandsForLife}
use Rattle.mode_control.proofs.Resting.{rested}
use Rattle.mode_control.proofs.Standing.{seen}
use Rattle.mode_control.proofs.state.SupervisionOver.finish_still.Goals as goal

pub returns-clause-stands : goal.returns-clause-stands
returns-clause-stands g c life reported deed s still at before_end kept =
    let began : TrackEntry = record reported { mark = None } in
    let event : SupervisionEntry = initial (record began { train = None; entered = None }) deed in
    let here = grown life event in
    let train = span_of here in
    let none = sym (ap (λ (k : KnownTrack). k.level) s.track_is.parts_are) ∙ still.track.level in
    let level : None ≡ level_in here = sym (ap (coming train.max_front) none) in
    let there : SupervisionEntry = the_train_is_seen here event in
    let saw : StandsForLife g.T.ProfileStores.stores c.args.self.now (grown life there) =
    subst (λ (l : Option TrainLevel). StandsForLife g.T.ProfileStores.stores c.args.self.now
    (grown life (record event { track = record event.track { train = Some train }; level = l })))
    level
    (record { parts_are = s.parts_are; track_is = looked (track_of life) event.track train s.track_is still.track }) in
    let areas = sym (ap (λ (k : KnownTrack). k.areas) saw.track_is.parts_are) ∙ still.track.areas in
    let parts = sym s.track_is.parts_are ∙ saw.track_is.parts_are in
    let end = same_end (authorities (tracks here.entries)) (authorities (tracks (grown life there).entries)) (ap (λ (k : KnownTrack). k.authority.stored) parts)
    (subst (λ (k : KnownTrack). IsUntimed k.authority.stored) s.track_is.parts_are still.track.untimed) in
    let before : IsTrue c.args.before_end → is_beyond_end (grown life there) c.args.train.now ≡ false = λ true.
    ap (λ (e : Option End). option_map_or (is_beyond c.args.train.now.min_front) e false) (sym end) ∙ before_end true in
    let mode = mode_of (grown life there).entries in
    let rests : Rests (grown life there) train (level_in here) = record {
      stays = subst (λ (t : Span). next_mode mode (conditions (grown life there) t) ≡ mode) at (c.keeps_mode.ensures (grown life there) saw areas before (search rules));
      areas = areas;
      announced = sym (ap (λ (k : KnownTrack). k.level) saw.track_is.parts_are) ∙ still.track.level;
      coming = sym level;
      on_sight = sym (ap (λ (k : KnownModes). k.on_sight) saw.parts_are) ∙ still.on_sight;
      shunting = sym (ap (λ (k : KnownModes). k.shunting) saw.parts_are) ∙ still.shunting;
      level_0 = sym (ap (λ (k : KnownModes). k.level_0) saw.parts_are) ∙ still.level_0;
    } in
    let turned = rested life began deed train (level_in here) saw rests in
    let event_then : SupervisionEntry = written (the_train_is_seen ∷ the_mode_changes ∷ the_calls_are_settled ∷ []) life event in
    let known : Knowledge g.row.T-Gradients.Denot g.row.T-Speeds.Denot = record { parts = c.self.inside.parts; track = c.forget_passed.new.self } in
    let turned_inside = seen c.self.view_is turned in
    subst (λ (t : Span). StandsForLife g.T.ProfileStores.stores known
    (grown life (record event_then { track = record event_then.track { mark = Some (forgetting_mark t) } })))
    (at ∙ ap (λ (k : KnownModes). span_with (length_by k.driver.train_data) (tracks here.entries)) (sym s.parts_are ∙ turned.parts_are))
    (record {
      parts_are = turned_inside.parts_are;
      track_is = c.forget_passed.ensures.stands (track_of life) event_then.track turned_inside.track_is;
    })
