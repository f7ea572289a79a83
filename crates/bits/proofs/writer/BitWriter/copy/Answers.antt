use Rattle.bits.proofs.Writes.{copied}
use Rattle.bits.proofs.writer.BitWriter.copy.Goals as goal

pub returns-in-Some-clause-value : goal.returns-in-Some-clause-value
returns-in-Some-clause-value g c = copied c.args.n c.in-Some.v c.args.bits.now c.args.self.now c.write_short.new.self c.requires.some c.in-Some.ensures.value c.write_short.ensures.value
