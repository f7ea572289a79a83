use Rattle.std.proofs.Common.{◌∷◌, Option, None, Some, rules, ap, subst, ◌∙◌}
use Rattle.mode_table.specs.declared.mode.Mode.{Mode}
use Rattle.track_picture.specs.Entry.{TrackEntry}
use Rattle.track_picture.specs.StandsFor.{KnownTrack, grown as track_grown}
use Rattle.mode_control.specs.declared.calls.Calls.{Calls}
use Rattle.mode_control.specs.declared.calls.Left.{Left}
use Rattle.mode_control.specs.Entry.{SupervisionEntry, initial}
use Rattle.mode_control.specs.History.{tracks}
use Rattle.mode_control.specs.Life.{Life, track_of, grown}
use Rattle.mode_control.specs.Sentences.{calls_in, left_in}
use Rattle.mode_control.specs.StandsFor.{Knowledge, StandsForLife}
use Rattle.mode_control.proofs.Resting.{rested}
use Rattle.mode_control.proofs.Standing.{seen}
use Rattle.mode_control.proofs.state.SupervisionOver.turn.Goals as goal

pub returns-clause-stands : goal.returns-clause-stands
returns-clause-stands g c life reported deed s =
    let before = seen c.self.view_is s in
    let train = c.args.seen.now.train in
    let level = c.args.seen.now.level in
    let looked : TrackEntry = record reported { train = Some train } in
    let event : SupervisionEntry = record (initial (record looked { entered = None }) deed) { level = level } in
    let here : Life = grown life event in
    let mode = c.entered-entered.result in
    let after : TrackEntry = record looked { entered = mode } in
    let entered = c.entered-entered.ensures here s in
    let calls = c.calls-calls.ensures here s in
    let track = c.enter.ensures.stands (track_of life) looked before.track_is in
    let left = c.left_by-left.ensures (track_grown (track_of life) after) track.parts_are in
    let path = c.path-path.ensures ∙ ap (λ x. x.path) (c.sums.ensures ∙ ap (λ p. p.sums) (c.place.ensures ∙ ap (λ (k : KnownTrack). k.place) track.parts_are)) in
    let known : Knowledge g.row.T-Gradients.Denot g.row.T-Speeds.Denot = record { parts = c.turn.new.self; track = c.enter.new.track } in
    let given = subst (λ (x : Calls × Left). StandsForLife g.T.ProfileStores.stores known
    (grown life (record event { track = after; calls = x.0; left = x.1 })))
    (λ i. (calls i, left i))
    (record { parts_are = c.turn.ensures life looked deed level before.parts_are path; track_is = track }) in
    subst (λ (m : Option Mode). StandsForLife g.T.ProfileStores.stores known
    (grown life (record event {
      track = record looked { entered = m };
      calls = calls_in here train level m;
      left = left_in (record looked { entered = m } ∷ tracks life.entries) train;
    })))
    entered given

pub returns-then-rests-clause-stands : goal.returns-then-rests-clause-stands
returns-then-rests-clause-stands g c life reported deed s =
    let train = c.args.seen.now.train in
    let level = c.args.seen.now.level in
    let event : SupervisionEntry = record (initial (record reported { train = Some train; entered = None }) deed) { level = level } in
    rested life reported deed train level s (c.rests.ensures (grown life event) s (search rules))
