use Rattle.std.proofs.Common.{◌≡◌, ◌+◌, ◌/◌, arith, ap, ◌∙◌, take}
use Rattle.bits.specs.Bits.{bits_of}
use Rattle.bits.proofs.Writes.{padded}
use Rattle.bits.proofs.writer.last_bytes.Goals as goal

pub returns-clause-bits : goal.returns-clause-bits
returns-clause-bits c =
    let e : c.div_ceil.result ≡ (c.args.held + 7) / 8 = grind arith in
    ap (λ t. bits_of (take c.div_ceil.result t)) c.to_be_bytes.ensures ∙ padded c.args.held c.div_ceil.result c.args.word c.requires (omega arith) (omega arith)
