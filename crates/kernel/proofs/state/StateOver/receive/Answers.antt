use Rattle.std.proofs.Common.{◌≡◌, Bool, true, false, IsTrue, ap, sym, subst, ◌∙◌}
use Rattle.std.specs.Prelude.{is_some, IfSome}
use Rattle.events.specs.declared.input.Event.TheVariants as event
use Rattle.kernel.specs.declared.carried.Carried.{Carried}
use Rattle.kernel.specs.Carrying.{IsCarriedAhead, IsPassed}
use Rattle.kernel.specs.Lives.{counted}
use Rattle.kernel.specs.StandsFor.{Knowledge}
use Rattle.kernel.proofs.Standing.{seen}
use Rattle.kernel.proofs.Steady.{stays_ahead}
use Rattle.kernel.proofs.Still.{left_begun, left_ended, mode_left, same_mode, moved, placed, when_begun, when_ended}
use Rattle.odometry.specs.Place.{stretch}
use Rattle.track_picture.specs.History.{place_of}
use Rattle.mode_control.specs.Conditions.{is_beyond_end}
use Rattle.mode_control.specs.Entry.{initial}
use Rattle.mode_control.specs.History.{tracks, mode_of}
use Rattle.mode_control.specs.Life.{length_by, grown}
use Rattle.mode_control.specs.StandsFor.{KnownModes}
use Rattle.mode_control.specs.Still.{IsStill}
use Rattle.mode_table.specs.Modes.{is_mode}
use Rattle.mode_control.specs.Sentences.{entry_of, reported, deed_of, span_of}
use Rattle.kernel.proofs.state.StateOver.receive.Goals as goal

pub returns-clause-life : goal.returns-clause-life
returns-clause-life g c life s =
    let before = seen c.self.view_is s in
    let input = c.args.input.now in
    let after = grown life (entry_of life input) in
    let begun = grown life (initial (reported life input) (deed_of life input)) in
    let carried = c.self.inside.carried in
    let train = c.move_on.new.self.still in
    let began = c.in_ok-closes.ensures.stands life before.supervision_is in
    let left = λ (closes : c.closes_none-closes_none.result ≡ true). left_begun (c.in_ok-closes.ensures.kept (c.closes_none-closes_none.ensures.idle closes)) in
    let there = c.move_on.ensures.train life began (placed _ life carried.still carried.steady before.still_is) in
    let before_end = c.is_some-before_end.ensures ∙ ap (λ (k : Carried). is_some k.steady) c.move_on.ensures.rest in
    let stands_still = subst (λ (b : Bool). IfSome train (λ t. IsStill c.begin.new.self × (t ≡ span_of begun) × (IsTrue b → is_beyond_end begun t ≡ false)))
    (sym before_end)
    (when_begun before.supervision_is began carried.still carried.steady before.still_is c.closes_none-closes_none.result train c.move_on.ensures.still there left) in
    let supervised = c.finish-passed.ensures.stands life (reported life input) (deed_of life input) began stands_still in
    let old = c.mode-mode.ensures ∙ ap (λ (k : KnownModes). k.mode) before.supervision_is.parts_are in
    let new = c.mode.ensures ∙ ap (λ (k : KnownModes). k.mode) supervised.parts_are in
    let ahead : c.is_calm-calm.result ≡ true → IsCarriedAhead carried after = λ calm.
    let is = c.is_calm-calm.ensures calm in
    stays_ahead life input (c.in_ok-closes.ensures.none life before.supervision_is is.0)
    ((λ i. is_mode (sym old i) (sym new i)) ∙ is.1) carried before.carried_is in
    let kept = λ (passed : c.finish-passed.result ≡ true). c.finish-passed.ensures.kept passed in
    let ended = λ (closes : c.closes_none-closes_none.result ≡ true) (passed : c.finish-passed.result ≡ true). left_ended (left closes) (kept passed).1 (kept passed).2 in
    let span = λ (passed : c.finish-passed.result ≡ true).
    ap (λ (k : KnownModes). stretch (place_of (tracks begun.entries)) (length_by k.driver.train_data)) (sym began.parts_are ∙ sym (kept passed).1 ∙ supervised.parts_are) in
    let same = λ (closes : c.closes_none-closes_none.result ≡ true) (passed : c.finish-passed.result ≡ true).
    mode_left before.supervision_is supervised (ended closes passed) in
    let same_carried = sym c.move_on.ensures.rest in
    let ahead_on : c.is_calm-calm.result ≡ true → IsCarriedAhead c.move_on.new.self after = λ calm.
    subst (λ (k : Carried). IsCarriedAhead k after) same_carried (ahead calm) in
    let still : c.finish-passed.result ≡ true → IsPassed c.finish-passed.new.self c.move_on.new.self after = λ passed.
    subst (λ (k : Carried). IsPassed c.finish-passed.new.self k after) same_carried
    (when_ended before.supervision_is supervised carried.still carried.steady before.still_is c.closes_none-closes_none.result train (kept passed).0
    c.move_on.ensures.still (moved train carried.steady (span passed) there) (λ closes. ended closes passed)
    (λ closes. stays_ahead life input (c.closes_none-closes_none.ensures.none life before.supervision_is closes)
    (ap (is_mode (mode_of life.entries)) (same closes passed) ∙ same_mode (mode_of life.entries)) carried before.carried_is)) in
    let allowed = c.limit_after-limit.ensures.limit after supervised ahead_on still in
    let display_values = c.sight_of-sight.ensures life supervised allowed in
    record {
      parts_are = c.note.ensures life (entry_of life input) before.parts_are display_values;
      supervision_is = supervised;
      carried_is = c.limit_after-limit.ensures.carried after supervised ahead_on still;
      still_is = c.limit_after-limit.ensures.still after supervised still;
    }

pub returns-clause-counts : goal.returns-clause-counts
returns-clause-counts g c =
    c.received-self-inside.ensures c.args.input.now
    ∙ ap (λ (k : Knowledge g.row.T-Gradients.Denot g.row.T-Speeds.Denot). counted k.counts (event.Input c.args.input.now)) c.self.view_is
