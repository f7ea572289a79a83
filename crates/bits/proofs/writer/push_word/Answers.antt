use Rattle.std.proofs.Common.{◌≡◌, ◌++◌, arith, ap, ◌∙◌}
use Rattle.std.proofs.lemmas.Grind.{common_steps}
use Rattle.bits.specs.Bits.{bits_of}
use Rattle.bits.proofs.Writes.{bits_of-append, word_bytes}
use Rattle.bits.proofs.writer.push_word.Goals as goal

pub returns-clause-bits : goal.returns-clause-bits
returns-clause-bits g c =
    let items : c.try_extend_from_slice-fits.new.self.items ≡ c.args.bytes.now.items ++ c.to_be_bytes.result = grind (arith, common_steps) in
    ap bits_of items ∙ bits_of-append c.args.bytes.now.items c.to_be_bytes.result
    ∙ ap (λ t. bits_of c.args.bytes.now.items ++ t) (ap bits_of c.to_be_bytes.ensures ∙ word_bytes c.args.word c.ranges.word.fits)
