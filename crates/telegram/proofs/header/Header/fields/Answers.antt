use Rattle.std.proofs.Common.{arith}
use Rattle.telegram.specs.Telegrams.{header}
use Rattle.telegram.proofs.header.Header.fields.Goals as goal

pub returns-10 : goal.returns-10
unfolding header
returns-10 g c =
    rw (← c.in-Ok-ok.ensures.value, ← c.in-Ok-ok-2.ensures.value, ← c.in-Ok-ok-3.ensures.value, ← c.in-Ok-ok-4.ensures.value, ← c.in-Ok-ok-5.ensures.value, ← c.in-Ok-ok-6.ensures.value, ← c.in-Ok-ok-7.ensures.value, ← c.in-Ok-ok-8.ensures.value, ← c.in-Ok-ok-9.ensures.value) c.put-7.ensures.value

pub field-requires-clause-space : goal.field-requires-clause-space
field-requires-clause-space g c = omega (arith, c.requires.space)

pub field-requires-2-clause-space : goal.field-requires-2-clause-space
field-requires-2-clause-space g c = omega (arith, c.requires.space, c.in-Ok-ok.ensures.held)

pub field-requires-3-clause-space : goal.field-requires-3-clause-space
field-requires-3-clause-space g c = omega (arith, c.requires.space, c.in-Ok-ok.ensures.held, c.in-Ok-ok-2.ensures.held)

pub put-requires : goal.put-requires
put-requires g c = record { space = omega (arith, c.requires.space, c.in-Ok-ok.ensures.held, c.in-Ok-ok-2.ensures.held, c.in-Ok-ok-3.ensures.held) }

pub put-requires-2 : goal.put-requires-2
put-requires-2 g c = record { space = omega (arith, c.requires.space, c.in-Ok-ok.ensures.held, c.in-Ok-ok-2.ensures.held, c.in-Ok-ok-3.ensures.held, c.in-Ok-ok-4.ensures.held) }

pub put-requires-3 : goal.put-requires-3
put-requires-3 g c = record { space = omega (arith, c.requires.space, c.in-Ok-ok.ensures.held, c.in-Ok-ok-2.ensures.held, c.in-Ok-ok-3.ensures.held, c.in-Ok-ok-4.ensures.held, c.in-Ok-ok-5.ensures.held) }

pub put-requires-4 : goal.put-requires-4
put-requires-4 g c = record { space = omega (arith, c.requires.space, c.in-Ok-ok.ensures.held, c.in-Ok-ok-2.ensures.held, c.in-Ok-ok-3.ensures.held, c.in-Ok-ok-4.ensures.held, c.in-Ok-ok-5.ensures.held, c.in-Ok-ok-6.ensures.held) }

pub put-requires-5 : goal.put-requires-5
put-requires-5 g c = record { space = omega (arith, c.requires.space, c.in-Ok-ok.ensures.held, c.in-Ok-ok-2.ensures.held, c.in-Ok-ok-3.ensures.held, c.in-Ok-ok-4.ensures.held, c.in-Ok-ok-5.ensures.held, c.in-Ok-ok-6.ensures.held, c.in-Ok-ok-7.ensures.held) }

pub put-requires-6 : goal.put-requires-6
put-requires-6 g c = record { space = omega (arith, c.requires.space, c.in-Ok-ok.ensures.held, c.in-Ok-ok-2.ensures.held, c.in-Ok-ok-3.ensures.held, c.in-Ok-ok-4.ensures.held, c.in-Ok-ok-5.ensures.held, c.in-Ok-ok-6.ensures.held, c.in-Ok-ok-7.ensures.held, c.in-Ok-ok-8.ensures.held) }

pub put-requires-7 : goal.put-requires-7
put-requires-7 g c = record { space = omega (arith, c.requires.space, c.in-Ok-ok.ensures.held, c.in-Ok-ok-2.ensures.held, c.in-Ok-ok-3.ensures.held, c.in-Ok-ok-4.ensures.held, c.in-Ok-ok-5.ensures.held, c.in-Ok-ok-6.ensures.held, c.in-Ok-ok-7.ensures.held, c.in-Ok-ok-8.ensures.held, c.in-Ok-ok-9.ensures.held) }
