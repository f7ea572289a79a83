use Rattle.bits.proofs.Bytes.{byte_front}
use Rattle.bits.proofs.window.front_byte.Goals as goal

pub returns : goal.returns
returns c = byte_front c.args.bytes.now c.requires
