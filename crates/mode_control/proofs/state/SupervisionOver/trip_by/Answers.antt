use Rattle.std.proofs.Common.{◌≡◌, false, rules, sym, ap, ◌∙◌}
use Rattle.units.specs.Stretches.{Span}
use Rattle.mode_control.specs.Entry.{SupervisionEntry, initial}
use Rattle.mode_control.specs.History.{mode_of}
use Rattle.mode_control.specs.Life.{Life, grown}
use Rattle.mode_control.specs.Sentences.{reported, deed_of, the_train_is_seen}
use Rattle.mode_control.specs.StandsFor.{KnownModes}
use Rattle.mode_control.specs.Tripping.{leads_to_trip, trip_in}
use Rattle.mode_control.proofs.Standing.{seen}
use Rattle.mode_control.proofs.Untripped.{untripped}
use Rattle.mode_control.proofs.state.SupervisionOver.trip_by.Goals as goal

pub returns-clause-cause : goal.returns-clause-cause
returns-clause-cause g c life s =
    let t = reported life c.args.input.now in
    let deed = deed_of life c.args.input.now in
    let event : SupervisionEntry = initial t deed in
    let began = c.in_ok-begin.ensures.stands life (seen c.in_ok-next.ensures.value s) in
    let now : Life = grown life (the_train_is_seen (grown life event) event) in
    c.trip_in.ensures now (c.see-seen.ensures.stands life t deed began)
    ∙ ap (λ (train : Span). trip_in now train) (c.see-seen.ensures.train life event began)

pub returns-then-not-leads_to_trip-clause-cause : goal.returns-then-not-leads_to_trip-clause-cause
returns-then-not-leads_to_trip-clause-cause g c life s =
    let none : c.leads_to_trip.result ≡ false = search rules in
    let reported : c.leads_to_trip.result ≡ leads_to_trip c.mode.result = c.leads_to_trip.ensures in
    let mode : c.args.self.now.parts.mode ≡ mode_of life.entries = ap (λ (k : KnownModes). k.mode) s.parts_are in
    sym (untripped life c.args.input.now (ap leads_to_trip (sym mode ∙ sym c.mode.ensures) ∙ sym reported ∙ none))
