use Rattle.std.proofs.Common.{ap, ◌∙◌}
use Rattle.kernel.specs.declared.sight.Sight.{Sight}
use Rattle.kernel.specs.StandsFor.{KnownAlongside}
use Rattle.kernel.proofs.parts.Parts.note.Goals as goal

pub returns : goal.returns
returns c life entry s display_values =
    let parts = c.self.view_is ∙ s in
    let window = c.after-self-inside.ensures life entry (ap (λ (k : KnownAlongside). k.window) parts) display_values in
    let limit = ap (λ (x : Sight). x.limit) display_values in
    λ i. record (parts i) { window = window i; limit = limit i }
