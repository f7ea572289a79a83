use Rattle.std.proofs.Common.{Option, inl, inr, refl, subst}
use Rattle.image_calls.specs.Lived.{Lived, life_up_to, Stands}
use Rattle.reasons.specs.Reported.{Reasoned}
use Rattle.image_calls.proofs.Asks.{unknown_stands, known_stands}
use Rattle.image_calls.proofs.whys.explain.Goals as goal

pub returns-in_default-known : goal.returns-in_default-known
returns-in_default-known c =
    let life : Option Lived = life_up_to c.args.image.now c.args.ring c.args.number c.args.event in
    inr (inl (unknown_stands life (subst (λ (known : Option Reasoned). Stands life known) c.in_default-known.is c.in-Ok.ensures), (refl, refl)))

pub returns : goal.returns
returns c =
    let life : Option Lived = life_up_to c.args.image.now c.args.ring c.args.number c.args.event in
    let known_so = known_stands life c.in-Some.life (subst (λ (known : Option Reasoned). Stands life known) c.in-Some.is c.in-Ok.ensures) in
    inl (refl, record { life = known_so.0; life_is = known_so.1; so = λ story left. c.why_reported.ensures _ (known_so.2 story left) })
