use Rattle.std.proofs.Common.{ap, ◌∙◌}
use Rattle.mode_control.specs.History.{after_deed, deeds}
use Rattle.mode_control.specs.Life.{left_at_power_up}
use Rattle.mode_control.specs.StandsFor.{KnownModes}
use Rattle.mode_control.proofs.parts.Parts.come_in.Goals as goal

pub returns : goal.returns
returns c life reported train deed s =
    let parts = c.self.view_is ∙ s in
    let driver = c.come_in.ensures (left_at_power_up life) (after_deed deed (deeds life.entries)) (ap (λ (k : KnownModes). k.driver) parts) in
    λ i. record (parts i) { driver = driver i }
