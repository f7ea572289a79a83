use Rattle.std.proofs.Common.{◌≡◌, false, IsTrue, rules, Option, None, subst}
use Rattle.std.specs.Prelude.{IfSome}
use Rattle.units.specs.Stretches.{Span}
use Rattle.mode_control.specs.Conditions.{is_beyond_end}
use Rattle.mode_control.specs.Entry.{initial}
use Rattle.mode_control.specs.Life.{grown}
use Rattle.mode_control.specs.Sentences.{span_of}
use Rattle.mode_control.specs.Still.{IsStill}
use Rattle.mode_control.proofs.state.SupervisionOver.finish.Goals as goal

pub returns-clause-stands : goal.returns-clause-stands
returns-clause-stands g c life reported deed s at =
    let seen = grown life (initial (record reported { train = None; entered = None; mark = None }) deed) in
    let given = subst (λ (o : Option Span). IfSome o (λ train. IsStill c.args.self.now × (train ≡ span_of seen) × (IsTrue c.args.before_end → is_beyond_end seen train ≡ false)))
    c.in-Some.is at in
    c.finish_still.ensures.stands life reported deed s given.0 given.1 given.2 (search rules)
