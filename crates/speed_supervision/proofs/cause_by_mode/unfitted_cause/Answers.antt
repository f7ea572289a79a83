use Rattle.std.proofs.Common.{◌≡◌, ℕ, ap, sym, subst, ◌∙◌}
use Rattle.driver.specs.declared.datum.Datum.{Datum}
use Rattle.driver.specs.Known as driver
use Rattle.driver.specs.Limits.{Train}
use Rattle.mode_control.specs.Life.{driver_of}
use Rattle.mode_control.specs.Sentences.{values_of}
use Rattle.mode_control.specs.StandsFor.{KnownModes}
use Rattle.speed_supervision.specs.Limit.{within_maximum, maximum_in, restricted}
use Rattle.speed_supervision.specs.Causes.{IsMaximum, IsUnrestricted}
use Rattle.speed_supervision.proofs.cause_by_mode.unfitted_cause.Goals as goal

pub returns-in-Some : goal.returns-in-Some
returns-in-Some g c life s = rw c.in-Some.is at (c.restriction_in.ensures.over life s)

pub returns-then-is_maximum : goal.returns-then-is_maximum
returns-then-is_maximum g c life s =
    let train : c.train_data.result ≡ (driver_of life).train_data =
    c.train_data.ensures ∙ ap (λ (d : driver.KnownItems). d.train_data) (c.driver.ensures ∙ ap (λ (k : KnownModes). k.driver) s.parts_are) in
    let unrestricted : IsUnrestricted life c.args.limit = rw c.in_default.is at (c.restriction_in.ensures.none life s) in
    (subst (λ (d : Datum Train). IsMaximum c.args.limit d) train (rw c.if-is_maximum.true at c.is_maximum.ensures), unrestricted)

pub returns : goal.returns
returns g c life s =
    let limit = c.args.limit in
    let own : ℕ = (values_of life).unfitted in
    let train : c.train_data.result ≡ (driver_of life).train_data =
    c.train_data.ensures ∙ ap (λ (d : driver.KnownItems). d.train_data) (c.driver.ensures ∙ ap (λ (k : KnownModes). k.driver) s.parts_are) in
    let unrestricted : (speed : ℕ) → restricted life speed ≡ limit → speed ≡ limit = rw c.in_default.is at (c.restriction_in.ensures.over life s) in
    let none : IsUnrestricted life limit = rw c.in_default.is at (c.restriction_in.ensures.none life s) in
    let free : maximum_in life own ≡ limit = unrestricted (maximum_in life own) (sym (c.requires life s)) in
    let other : ((speed : ℕ) → within_maximum c.train_data.result speed ≡ limit → speed ≡ limit) × (IsMaximum limit c.train_data.result → ⊥) =
    rw c.if-is_maximum.false at c.is_maximum.ensures in (
      other.0 own (ap (λ (d : Datum Train). within_maximum d own) train ∙ free),
      none,
      λ is. other.1 (subst (λ (d : Datum Train). IsMaximum limit d) (sym train) is),
    )
