use Rattle.std.proofs.Common.{subst, ◌∙◌}
use Rattle.units.specs.Stretches.{Span}
use Rattle.mode_control.specs.Sentences.{span_of}
use Rattle.speed_supervision.specs.Steady.{IsWithin}
use Rattle.speed_supervision.proofs.Remaining.{permitted_is}
use Rattle.speed_supervision.proofs.steady.SteadyLimit.limit_of.Goals as goal

pub returns-then-is_for-clause-limit : goal.returns-then-is_for-clause-limit
returns-then-is_for-clause-limit g c life s steady =
    let self = c.args.self.now in
    let within : IsWithin self (span_of life) =
    subst (λ (train : Span). IsWithin self train) (c.stretch.ensures life s) (c.has_within.ensures.within c.if-not-has_within.false) in
    permitted_is self life c.in_ok-train.train steady within (c.is_for.ensures.bounds life s c.if-is_for.true)
    (c.is_for.ensures.brakes c.if-is_for.true) (c.is_for.ensures.national life s c.if-is_for.true)
    ∙ c.in_ok-train.ensures life s
