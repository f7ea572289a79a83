use Rattle.std.proofs.Common.{Option, Some, sym, subst}
use Rattle.image_calls.specs.Lived.{one_more, Stands}
use Rattle.reasons.specs.Reported.{Reasoned}
use Rattle.image_calls.proofs.Asks.{none_follows, some_follows}
use Rattle.image_calls.proofs.running.follow.Goals as goal

pub returns-in_default : goal.returns-in_default
returns-in_default c = λ at. subst (λ (known : Option Reasoned). Stands at known → Stands (one_more c.args.event.now at) known) (sym c.in_default.is) (none_follows c.args.event.now at)

pub returns : goal.returns
returns c = λ at. subst (λ (known : Option Reasoned). Stands at known → Stands (one_more c.args.event.now at) (Some c.follow.new.self)) (sym c.in-Some.is)
    (some_follows c.args.event.now _ c.follow.new.self at c.in_ok-follow.ensures.stands)
