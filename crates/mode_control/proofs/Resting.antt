-- An event that rests brings nothing more to a life.
use Rattle.std.proofs.Common.{◌≡◌, false, ◌&&◌, Option, Some, None, [], ◌∷◌, refl, sym, ap, subst, ◌∙◌}
use Rattle.std.specs.Prelude.{not}
use Rattle.areas.specs.declared.acknowledgement.Acknowledgement.{Acknowledgement}
use Rattle.areas.specs.declared.acknowledgement.Acknowledgement.TheVariants.{Nothing}
use Rattle.areas.specs.Acknowledging.{Happening, after}
use Rattle.areas.specs.Areas.{any_asks, any_remains}
use Rattle.areas.specs.Levels.{any_asks_for, is_level_0_announced}
use Rattle.mode_table.specs.declared.level.TrainLevel.{TrainLevel}
use Rattle.mode_table.specs.declared.mode.Mode.{Mode}
use Rattle.mode_table.specs.declared.mode.Mode.TheVariants.{FullSupervision, OnSight, Shunting}
use Rattle.mode_table.specs.Modes.{is_mode}
use Rattle.units.specs.Stretches.{Span}
use Rattle.vars.specs.declared.level.AreaMode.TheVariants as area
use Rattle.track_picture.specs.Entry.{TrackEntry}
use Rattle.track_picture.specs.History.{moment_of}
use Rattle.track_picture.specs.Stores.{Stores}
use Rattle.mode_control.specs.declared.calls.Calls.{Calls}
use Rattle.mode_control.specs.declared.calls.Left.{Left}
use Rattle.mode_control.specs.declared.deed.Deed.{Deed}
use Rattle.mode_control.specs.Entry.{SupervisionEntry, initial, no_calls}
use Rattle.mode_control.specs.History.{tracks, mode_of}
use Rattle.mode_control.specs.Life.{Life, grown}
use Rattle.mode_control.specs.Resting.{Rests}
use Rattle.mode_control.specs.Sentences.{changed, calls_in, left_in, moment_where, is_coming_to_level_0, the_mode_changes, the_calls_are_settled, written}
use Rattle.mode_control.specs.StandsFor.{Knowledge, StandsForLife, parts_of}

abbrev none_left : Left
none_left = record { on_sight = false; shunting = false; level_0 = false }

unchanged : (mode : Mode) → None ≡ changed mode mode
unchanged FullSupervision = refl
unchanged other = refl

settled : (a : Acknowledgement) → a ≡ Nothing → a ≡ after Happening.Settled a
settled a e = e ∙ sym (ap (after Happening.Settled) e)

module _ {G S : Type 0} {stores : Stores G S} where
  pub rested : {known : Knowledge G S} (life : Life) (reported : TrackEntry) (deed : Option Deed) (train : Span) (level : Option TrainLevel) →
      (let event = record (initial (record reported { train = Some train; entered = None }) deed) { level = level } in
      StandsForLife stores known (grown life event) → Rests (grown life event) train level
      → StandsForLife stores known (grown life (written (the_mode_changes ∷ the_calls_are_settled ∷ []) life event)))
  rested {known} life reported deed train level s is =
      let looked : TrackEntry = record reported { train = Some train } in
      let event : SupervisionEntry = record (initial (record looked { entered = None }) deed) { level = level } in
      let here : Life = grown life event in
      let mode = mode_of here.entries in
      let moment = moment_of (tracks here.entries) in
      let calls : calls_in here train level None ≡ no_calls = λ i. record {
        on_sight = record { turned = None; asks = any_asks area.OnSight train (is.areas i) && not (is_mode OnSight mode) };
        shunting = record { turned = None; asks = any_asks area.Shunting train (is.areas i) && not (is_mode Shunting mode) };
        level_0 = record { turned = moment_where (is_coming_to_level_0 (is.coming i)) moment; asks = any_asks_for train.max_front (is.announced i) };
      } in
      let left : left_in (tracks here.entries) train ≡ none_left = λ i. record {
        on_sight = any_remains area.OnSight train.min_front (is.areas i);
        shunting = any_remains area.Shunting train.min_front (is.areas i);
        level_0 = is_level_0_announced (is.announced i);
      } in
      let quiet : StandsForLife stores known (grown life (record event { calls = no_calls; left = none_left })) = record {
        parts_are = s.parts_are ∙ (λ i. record (parts_of here) {
          on_sight = settled _ is.on_sight i;
          shunting = settled _ is.shunting i;
          level_0 = settled _ is.level_0 i;
        });
        track_is = s.track_is;
      } in
      let called = subst (λ (x : Calls × Left). StandsForLife stores known (grown life (record event { calls = x.0; left = x.1 })))
      (λ i. (sym calls i, sym left i)) quiet in
      subst (λ (m : Option Mode). StandsForLife stores known
      (grown life (record event {
        track = record looked { entered = m };
        calls = calls_in here train level m;
        left = left_in (record looked { entered = m } ∷ tracks life.entries) train;
      })))
      (unchanged mode ∙ ap (changed mode) (sym is.stays)) called
