use Rattle.bits.proofs.Numbers.{number_bits-zero}
use Rattle.bits.proofs.writer.BitWriter.new.Goals as goal

pub returns : goal.returns
returns g c = rw (c.new.ensures, number_bits-zero)
