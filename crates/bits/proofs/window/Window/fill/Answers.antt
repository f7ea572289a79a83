use Rattle.std.proofs.Common.{◌≡◌, ◌++◌, take, drop, length, ◌-◌, ap, ◌∙◌, arith}
use Rattle.bits.specs.Bits.{bits_of, number_bits}
use Rattle.bits.proofs.Bytes.{past}
use Rattle.bits.proofs.Windows.{moved}
use Rattle.bits.proofs.window.Window.fill.Goals as goal

pub returns-then-self-ge4-clause-same : goal.returns-then-self-ge4-clause-same
returns-then-self-ge4-clause-same c =
    let whole : number_bits 32 c.front_word-word.result ++ bits_of (take (length c.args.self.now.rest.now - 4) (drop 4 c.args.self.now.rest.now)) ≡ bits_of c.args.self.now.rest.now =
    ap (λ t. number_bits 32 c.front_word-word.result ++ bits_of t) (past 4 c.args.self.now.rest.now) ∙ c.front_word-word.ensures in
    moved c.args.self.now.held 32 32 c.args.self.now.word c.front_word-word.result _ _ (omega arith) c.front_word-word.type_inv whole
