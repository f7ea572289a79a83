use Rattle.std.proofs.Common.{Bool, List}
use Rattle.bits.proofs.Fitting.{FromOn}
use Rattle.bits.specs.Layout.{Spells}
use Rattle.packets.specs.Packets.{packet}
use Rattle.telegram.proofs.message.all_have_spelling.Given as goal

abbrev pub invariant-loop-packet : goal.invariant-loop-packet
invariant-loop-packet l = FromOn (λ p. (bits : List Bool) × Spells packet p bits) l.packets l.packet-index
