use Rattle.std.proofs.Common.{Some, ap, ◌∙◌}
use Rattle.areas.specs.declared.acknowledgement.Acknowledgement.{Acknowledgement}
use Rattle.areas.specs.Acknowledging.{Happening, after_some}
use Rattle.mode_control.specs.declared.calls.Kind.{Kind}
use Rattle.mode_control.specs.declared.calls.Kind.TheVariants as kinds
use Rattle.mode_control.specs.History.{deeds, only, acknowledges}
use Rattle.mode_control.specs.Life.{left_at_power_up}
use Rattle.mode_control.specs.StandsFor.{KnownModes}
use Rattle.mode_control.proofs.parts.Parts.act.Goals as goal

pub returns : goal.returns
returns c life reported s =
    let parts = c.self.view_is ∙ s in
    let action = c.args.deed.now.action in
    let driver = c.act.ensures (left_at_power_up life) (deeds life.entries) (ap (λ (k : KnownModes). k.driver) parts) in
    let acknowledged : Kind → Acknowledgement → Acknowledgement =
    λ kind before. after_some (only (acknowledges kind (Some action)) Happening.Acknowledged) before in
    let on_sight = c.acknowledge.ensures ∙ ap (λ (k : KnownModes). acknowledged kinds.OnSight k.on_sight) parts in
    let shunting = c.acknowledge-2.ensures ∙ ap (λ (k : KnownModes). acknowledged kinds.Shunting k.shunting) parts in
    let level_0 = c.acknowledge-3.ensures ∙ ap (λ (k : KnownModes). acknowledged kinds.Level0 k.level_0) parts in
    λ i. record (parts i) { driver = driver i; on_sight = on_sight i; shunting = shunting i; level_0 = level_0 i; done = Some action }
