use Rattle.std.proofs.Common.{◌≡◌, List, Bool, ◌++◌, drop}
use Rattle.telegram.specs.Telegrams.{SpellsPackets}
use Rattle.telegram.proofs.encoding.write_packets.Given as goal

-- what is written so far, with a spelling of the packets that are left, makes each spelling of all
abbrev pub invariant-loop-packet : goal.invariant-loop-packet
invariant-loop-packet l =
    (bits : List Bool) → SpellsPackets l.packets bits → (left : List Bool) × SpellsPackets (drop l.packet-index l.packets) left × (l.writer ++ left ≡ l.fn.writer ++ bits)
