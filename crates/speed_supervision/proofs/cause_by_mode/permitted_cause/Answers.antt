use Rattle.std.proofs.Common.{◌≡◌, ap, sym, subst, ◌∙◌}
use Rattle.driver.specs.declared.datum.Datum.{Datum}
use Rattle.driver.specs.Known as driver
use Rattle.driver.specs.Limits.{Train}
use Rattle.mode_control.specs.Life.{driver_of}
use Rattle.mode_control.specs.StandsFor.{KnownModes}
use Rattle.speed_supervision.specs.Limit.{permitted_for}
use Rattle.speed_supervision.specs.declared.cause.LimitCause.TheVariants.{Speed}
use Rattle.speed_supervision.specs.Causes.{IsPermittedCause}
use Rattle.speed_supervision.proofs.cause_by_mode.permitted_cause.Goals as goal

pub returns-in-Valid : goal.returns-in-Valid
returns-in-Valid g c life s =
    let train : c.train_data.result ≡ (driver_of life).train_data =
    c.train_data.ensures ∙ ap (λ (d : driver.KnownItems). d.train_data) (c.driver.ensures ∙ ap (λ (k : KnownModes). k.driver) s.parts_are) in
    subst (λ (d : Datum Train). IsPermittedCause life (permitted_for life d) (Speed c.train_cause.result) d) (sym c.in-Valid.is ∙ train)
    (c.train_cause.ensures life s)
