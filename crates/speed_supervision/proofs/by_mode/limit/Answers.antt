use Rattle.std.proofs.Common.{ap, ◌∙◌}
use Rattle.mode_table.specs.declared.mode.Mode.{Mode}
use Rattle.speed_supervision.specs.Limit.{limit_in}
use Rattle.mode_control.specs.StandsFor.{KnownModes}
use Rattle.speed_supervision.proofs.by_mode.limit.Goals as goal

pub returns : goal.returns
returns g c life s = c.limit_in.ensures life s ∙ ap (λ (m : Mode). limit_in m life) (c.mode-mode.ensures ∙ ap (λ (k : KnownModes). k.mode) s.parts_are)
