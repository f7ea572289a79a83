use Rattle.std.proofs.Common.{◌≡◌, ◌++◌, take, drop, length, ◌-◌, ap, ◌∙◌}
use Rattle.bits.specs.Bits.{bits_of, number_bits}
use Rattle.bits.proofs.Bytes.{past}
use Rattle.bits.proofs.Windows.{moved}
use Rattle.bits.proofs.window.Window.byte.Goals as goal

pub returns-then-self-gt0-clause-same : goal.returns-then-self-gt0-clause-same
returns-then-self-gt0-clause-same c =
    let whole : number_bits 8 c.front_byte-byte.result ++ bits_of (take (length c.args.self.now.rest.now - 1) (drop 1 c.args.self.now.rest.now)) ≡ bits_of c.args.self.now.rest.now =
    ap (λ t. number_bits 8 c.front_byte-byte.result ++ bits_of t) (past 1 c.args.self.now.rest.now) ∙ c.front_byte-byte.ensures in
    moved c.args.self.now.held 8 56 c.args.self.now.word c.front_byte-byte.result _ _ c.requires c.front_byte-byte.type_inv whole
