use Rattle.std.proofs.Common.{◌≡◌, ◌+◌, ◌*◌, ◌≤◌, List, Bool, ◌++◌, length}
use Rattle.packets.specs.declared.packet.Packet.{Packet}
use Rattle.telegram.specs.Sequences.{BeginsPackets}
use Rattle.telegram.specs.Telegrams.{RefusesPackets}
use Rattle.telegram.specs.declared.fault.TelegramFault.{TelegramFault}
use Rattle.telegram.proofs.validation.count_packets.Given as goal

-- some packets were read, and what comes of the bits that are left comes of all, after them
abbrev pub invariant-packets : goal.invariant-packets
invariant-packets l = record {
  front : List Packet;
  counted : length front ≡ l.count;
  begins : (ps : List Packet) (rest : List Bool) → BeginsPackets ps l.reader rest → BeginsPackets (front ++ ps) l.fn.reader rest;
  refused : (e : TelegramFault) (ps : List Packet) → RefusesPackets e ps l.reader → RefusesPackets e (front ++ ps) l.fn.reader;
  space : 23 * l.count + length l.reader ≤ 782;
}

abbrev pub decreases-packets : goal.decreases-packets
decreases-packets l = length l.reader
