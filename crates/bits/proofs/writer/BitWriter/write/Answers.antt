use Rattle.std.proofs.Common.{arith}
use Rattle.bits.proofs.Writes.{two_parts, upper_fits}
use Rattle.bits.proofs.writer.BitWriter.write.Goals as goal

pub write_short-requires-else-n-le32 : goal.write_short-requires-else-n-le32
write_short-requires-else-n-le32 g c = (omega arith, (omega arith, (upper_fits c.args.n c.args.v c.if-n-le32.false c.requires.value, omega arith)))

pub returns-else-n-le32-clause-value : goal.returns-else-n-le32-clause-value
returns-else-n-le32-clause-value g c = two_parts c.args.n c.args.v c.args.self.now c.write_short-else-n-le32.new.self c.write_short-else-n-le32-2.new.self c.if-n-le32.false c.write_short-else-n-le32.ensures.value c.write_short-else-n-le32-2.ensures.value
