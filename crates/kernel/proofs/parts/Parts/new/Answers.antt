use Rattle.std.proofs.Common.{ap, ◌∙◌}
use Rattle.driver.specs.Data.{met_by}
use Rattle.mode_table.specs.declared.statuses.Fate.{Fate}
use Rattle.kernel.proofs.parts.Parts.new.Goals as goal

pub returns-clause-before : goal.returns-clause-before
returns-clause-before c =
    let window = c.new.ensures.nothing c.args.kept.now c.args.cold in
    let limit = c.no_speed.ensures in
    let position = c.met_by.ensures ∙ ap (λ (f : Fate). met_by f c.args.kept.now.position) c.power_up_status.ensures in
    λ i. record { window = window i; limit = limit i; position = position i }

pub returns-clause-initial : goal.returns-clause-initial
returns-clause-initial c =
    let window = c.new.ensures.initial c.args.kept.now c.args.cold in
    let limit = c.no_speed.ensures in
    let position = c.met_by.ensures ∙ ap (λ (f : Fate). met_by f c.args.kept.now.position) c.power_up_status.ensures in
    λ i. record { window = window i; limit = limit i; position = position i }
