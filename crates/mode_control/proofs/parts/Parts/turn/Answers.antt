use Rattle.std.proofs.Common.{Bool, [], ◌∷◌, ap, ◌∙◌, cond}
use Rattle.std.specs.Prelude.{not}
use Rattle.areas.specs.declared.acknowledgement.Acknowledgement.{Acknowledgement}
use Rattle.areas.specs.Acknowledging.{Happening, after_event}
use Rattle.mode_control.specs.declared.calls.Call.{Call}
use Rattle.mode_control.specs.History.{after_deed, after_level, deeds, enters_staff, only, entered_at, deletes}
use Rattle.mode_control.specs.Life.{left_at_power_up}
use Rattle.mode_control.specs.Sentences.{mode_after}
use Rattle.mode_control.specs.StandsFor.{KnownModes}
use Rattle.mode_control.proofs.parts.Parts.turn.Goals as goal

pub returns : goal.returns
returns c life reported deed level s path =
    let parts = c.self.view_is ∙ s in
    let entered = c.args.entered.now in
    let driver = c.turn_driver.ensures (left_at_power_up life) (after_level level (after_deed deed (deeds life.entries))) (ap (λ (k : KnownModes). k.driver) parts) in
    let mode = c.mode_after-self-inside.ensures ∙ ap (λ (k : KnownModes). mode_after k.mode entered) parts in
    let staff = c.staff_from-self-inside.ensures ∙ (λ i. cond (enters_staff entered) (path i) (parts i).staff_from) in
    let answered : Call → Bool → Acknowledgement → Acknowledgement =
    λ call left before. after_event (entered_at call.turned ∷ only call.asks Happening.Requested ∷ only (deletes entered) Happening.Deleted ∷ only (not left) Happening.Settled ∷ []) before in
    let calls = c.args.calls.now in
    let left = c.args.left.now in
    let on_sight = c.answer.ensures ∙ ap (λ (k : KnownModes). answered calls.on_sight left.on_sight k.on_sight) parts in
    let shunting = c.answer-2.ensures ∙ ap (λ (k : KnownModes). answered calls.shunting left.shunting k.shunting) parts in
    let level_0 = c.answer-3.ensures ∙ ap (λ (k : KnownModes). answered calls.level_0 left.level_0 k.level_0) parts in
    λ i. record (parts i) { driver = driver i; mode = mode i; staff_from = staff i; on_sight = on_sight i; shunting = shunting i; level_0 = level_0 i }
