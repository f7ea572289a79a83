use Rattle.std.proofs.Common.{◌++◌, ap, ◌∙◌, drop}
use Rattle.bits.specs.Bits.{bits_of, number_bits}
use Rattle.bits.proofs.Bytes.{word_front}
use Rattle.bits.proofs.window.front_word.Goals as goal

pub returns : goal.returns
returns c = ap (λ x. number_bits 32 x ++ bits_of (drop 4 c.args.bytes.now)) c.from_be_bytes.ensures ∙ word_front c.args.bytes.now c.requires (λ i. (c.type_inv.bytes i).fits)
