use Rattle.packets.specs.Packets.{packet}
use Rattle.bits.proofs.Laws as laws
use Rattle.packets.proofs.decoding.one_spelling.Goals as goal

pub returns : goal.returns
returns c = laws.one_spelling packet
