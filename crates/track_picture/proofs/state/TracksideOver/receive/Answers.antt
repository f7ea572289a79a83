use Rattle.std.proofs.Common.{◌≡◌, ℕ, List, [], sym, subst}
use Rattle.std.proofs.lemmas.Result.{on_ok_weaker, IfOk-weaker}
use Rattle.events.specs.declared.input.Input.{Input}
use Rattle.events.specs.declared.input.Input.TheVariants as inputs
use Rattle.track_picture.specs.declared.happened.Happened.{Happened}
use Rattle.track_picture.specs.Entry.{InputEffect}
use Rattle.track_picture.specs.Sentences.{with_groups, received}
use Rattle.track_picture.specs.StandsFor.{StandsForLife, grown, grown_so_far}
use Rattle.track_picture.specs.Columns.{StandsForColumns}
use Rattle.track_picture.proofs.SameParts.{by_columns, by_facts, same_moved, same_happened}
use Rattle.track_picture.proofs.Standing.{seen}
use Rattle.track_picture.proofs.state.TracksideOver.receive.Goals as goal

pub returns-in-Telegram-clause-stands : goal.returns-in-Telegram-clause-stands
returns-in-Telegram-clause-stands g c =
    on_ok_weaker c.listen.result
    (λ taken life s. subst (λ (x : Input). StandsForLife g.T.ProfileStores.stores c.listen.new.self (grown life (received c.args.mode life.entries x)))
    (sym c.in-Telegram.is)
    (subst (λ (bytes : List ℕ). StandsForLife g.T.ProfileStores.stores c.listen.new.self (grown life (received c.args.mode life.entries (inputs.Telegram bytes))))
    c.as_slice.ensures.value
    (by_facts (grown life (received c.args.mode life.entries (inputs.Telegram c.as_slice.result.now))) (taken life (by_columns life s)))))
    c.listen.ensures.stands

pub returns-in-Odometer-clause-stands : goal.returns-in-Odometer-clause-stands
returns-in-Odometer-clause-stands g c =
    let reading = c.in-Odometer.reading in
    on_ok_weaker c.move_by.result
    (λ taken life s. subst (λ (x : Input). StandsForLife g.T.ProfileStores.stores c.move_by.new.self (grown life (received c.args.mode life.entries x)))
    (sym c.in-Odometer.is)
    (by_facts (grown life (received c.args.mode life.entries (inputs.Odometer reading)))
    (subst (λ (x : InputEffect × Happened). StandsForColumns g.T.ProfileStores.stores c.move_by.new.self (grown_so_far life x.0 (with_groups c.args.mode life.entries x.0 x.1)))
    (λ i. (sym (same_moved life.entries reading) i, sym (same_happened life.entries reading) i))
    (taken life (by_columns life s)))))
    c.move_by.ensures.stands

pub returns-in-Clock-clause-stands : goal.returns-in-Clock-clause-stands
returns-in-Clock-clause-stands g c life s =
    let before = by_columns life (seen c.self.view_is s) in
    subst (λ (x : Input). StandsForLife g.T.ProfileStores.stores
    (record { parts = c.tick.new.self; restrictions = c.self.inside.restrictions; gradients = c.self.inside.gradients; speeds = c.self.inside.speeds })
    (grown life (received c.args.mode life.entries x)))
    (sym c.in-Clock.is)
    (by_facts (grown life (received c.args.mode life.entries (inputs.Clock c.in-Clock.moment)))
    (record {
      parts_are = c.tick.ensures.stands life before.parts_are;
      restrictions_are = before.restrictions_are;
      gradients_are = before.gradients_are;
      speeds_are = before.speeds_are;
    }))

pub returns-in-Driver-clause-stands : goal.returns-in-Driver-clause-stands
returns-in-Driver-clause-stands g c life s =
    let before = by_columns life (seen c.self-in-Driver.view_is s) in
    subst (λ (x : Input). StandsForLife g.T.ProfileStores.stores
    (record { parts = c.pass_over.new.self; restrictions = c.self-in-Driver.inside.restrictions; gradients = c.self-in-Driver.inside.gradients; speeds = c.self-in-Driver.inside.speeds })
    (grown life (received c.args.mode life.entries x)))
    (sym c.in-Driver.is)
    (by_facts (grown life (received c.args.mode life.entries (inputs.Driver c.in-Driver.field-0)))
    (record {
      parts_are = c.pass_over.ensures life before.parts_are;
      restrictions_are = before.restrictions_are;
      gradients_are = before.gradients_are;
      speeds_are = before.speeds_are;
    }))

pub returns-in-Telegram-clause-none : goal.returns-in-Telegram-clause-none
returns-in-Telegram-clause-none g c =
    IfOk-weaker c.listen.result _ _
    (λ closes taken life s is. subst (λ (x : Input). (received c.args.mode life.entries x).used.groups ≡ []) (sym c.in-Telegram.is)
    (subst (λ (bytes : List ℕ). (received c.args.mode life.entries (inputs.Telegram bytes)).used.groups ≡ []) c.as_slice.ensures.value
    (taken life (by_columns life s) is)))
    c.listen.ensures.none

pub returns-in-Odometer-clause-none : goal.returns-in-Odometer-clause-none
returns-in-Odometer-clause-none g c =
    let reading = c.in-Odometer.reading in
    IfOk-weaker c.move_by.result _ _
    (λ closes taken life s is. subst (λ (x : Input). (received c.args.mode life.entries x).used.groups ≡ []) (sym c.in-Odometer.is)
    (subst (λ (x : InputEffect × Happened). (with_groups c.args.mode life.entries x.0 x.1).groups ≡ [])
    (λ i. (sym (same_moved life.entries reading) i, sym (same_happened life.entries reading) i))
    (taken life (by_columns life s) is)))
    c.move_by.ensures.none
