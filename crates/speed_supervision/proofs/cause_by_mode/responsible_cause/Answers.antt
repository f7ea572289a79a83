use Rattle.std.proofs.Common.{◌≡◌, ℕ, false, ap, sym, subst, ◌∙◌}
use Rattle.std.specs.Prelude.{◌==◌, ◌&&◌}
use Rattle.std.proofs.lemmas.Bool.{and_parts, eqb-true}
use Rattle.driver.specs.declared.datum.Datum.{Datum}
use Rattle.driver.specs.Known as driver
use Rattle.driver.specs.Limits.{Train}
use Rattle.mode_control.specs.Conditions.{is_overridden}
use Rattle.mode_control.specs.Life.{driver_of}
use Rattle.mode_control.specs.Sentences.{values_of}
use Rattle.mode_control.specs.StandsFor.{KnownModes}
use Rattle.speed_supervision.specs.Limit.{within_maximum, maximum_in, restricted, while_overridden}
use Rattle.speed_supervision.specs.Causes.{IsMaximum, IsUnrestricted}
use Rattle.speed_supervision.proofs.Overriding.{no_override, other_speed}
use Rattle.speed_supervision.proofs.cause_by_mode.responsible_cause.Goals as goal

pub returns-in-Some : goal.returns-in-Some
returns-in-Some g c life s = rw c.in-Some.is at (c.restriction_in.ensures.over life s)

pub returns-then-is_override : goal.returns-then-is_override
returns-then-is_override g c life s =
    let halves = and_parts (is_overridden life) ((values_of life).override_speed == c.args.limit) (sym (c.is_override.ensures life s) ∙ c.if-is_override.true) in
    let unrestricted : IsUnrestricted life c.args.limit = rw c.in_default.is at (c.restriction_in.ensures.none life s) in
    ((halves.0, eqb-true (values_of life).override_speed c.args.limit halves.1), unrestricted)

pub returns-then-is_maximum : goal.returns-then-is_maximum
returns-then-is_maximum g c life s =
    let limit = c.args.limit in
    let train : c.train_data.result ≡ (driver_of life).train_data =
    c.train_data.ensures ∙ ap (λ (d : driver.KnownItems). d.train_data) (c.driver.ensures ∙ ap (λ (k : KnownModes). k.driver) s.parts_are) in
    let unrestricted : IsUnrestricted life limit = rw c.in_default.is at (c.restriction_in.ensures.none life s) in (
      subst (λ (d : Datum Train). IsMaximum limit d) train (rw c.if-is_maximum.true at c.is_maximum.ensures),
      unrestricted,
      other_speed (is_overridden life) (values_of life).override_speed limit (sym (c.is_override.ensures life s) ∙ c.if-is_override.false),
    )

pub returns : goal.returns
returns g c life s =
    let limit = c.args.limit in
    let own : ℕ = (values_of life).staff_responsible in
    let train : c.train_data.result ≡ (driver_of life).train_data =
    c.train_data.ensures ∙ ap (λ (d : driver.KnownItems). d.train_data) (c.driver.ensures ∙ ap (λ (k : KnownModes). k.driver) s.parts_are) in
    let unrestricted : (speed : ℕ) → restricted life speed ≡ limit → speed ≡ limit = rw c.in_default.is at (c.restriction_in.ensures.over life s) in
    let none : IsUnrestricted life limit = rw c.in_default.is at (c.restriction_in.ensures.none life s) in
    let lowered : while_overridden life (maximum_in life own) ≡ limit = unrestricted (while_overridden life (maximum_in life own)) (sym (c.requires life s)) in
    let unlike : (is_overridden life && ((values_of life).override_speed == limit)) ≡ false = sym (c.is_override.ensures life s) ∙ c.if-is_override.false in
    let free : maximum_in life own ≡ limit =
    no_override (is_overridden life) (maximum_in life own) (values_of life).override_speed limit lowered unlike in
    let other : ((speed : ℕ) → within_maximum c.train_data.result speed ≡ limit → speed ≡ limit) × (IsMaximum limit c.train_data.result → ⊥) =
    rw c.if-is_maximum.false at c.is_maximum.ensures in (
      other.0 own (ap (λ (d : Datum Train). within_maximum d own) train ∙ free),
      none,
      other_speed (is_overridden life) (values_of life).override_speed limit unlike,
      λ is. other.1 (subst (λ (d : Datum Train). IsMaximum limit d) (sym train) is),
    )
