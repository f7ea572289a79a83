use Rattle.bits.proofs.Numbers.{number_bits-zero}
use Rattle.std.specs.Prelude.{◌++◌}
use Rattle.std.proofs.Common.{ap}
use Rattle.bits.specs.Bits.{bits_of}
use Rattle.bits.proofs.reader.BitReader.new.Goals as goal

pub returns : goal.returns
returns c = ap (λ t. t ++ bits_of c.args.bytes.now) (number_bits-zero 0)
