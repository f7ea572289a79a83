use Rattle.std.proofs.Common.{◌≡◌, ◌+◌, ◌-◌, ◌*◌, length, arith, ap, sym, ◌∙◌}
use Rattle.bits.specs.Bits.{bits_of}
use Rattle.bits.proofs.Writes.{grown, joined, joined_fits, moved_out, length-written}
use Rattle.bits.proofs.writer.BitWriter.write_short.Goals as goal

pub overflow_add-self : goal.overflow_add-self
overflow_add-self g c = record { fits = joined_fits c.args.n c.self.inside.word c.args.v c.requires.bits c.requires.value }

pub push_word-requires : goal.push_word-requires
push_word-requires g c =
    let long : length c.args.self.now ≡ 8 * length c.self.inside.bytes.items + c.self.inside.held = sym (ap length c.self.view_is) ∙ length-written c.self.inside.bytes.items c.self.inside.held c.self.inside.word in
    (omega arith, omega arith)

pub invariant_of-self : goal.invariant_of-self
invariant_of-self g c =
    let long : length c.args.self.now ≡ 8 * length c.self.inside.bytes.items + c.self.inside.held = sym (ap length c.self.view_is) ∙ length-written c.self.inside.bytes.items c.self.inside.held c.self.inside.word in
    (omega arith, omega arith)

pub invariant_of-self-else-self-ge32 : goal.invariant_of-self-else-self-ge32
invariant_of-self-else-self-ge32 g c =
    let long : length c.args.self.now ≡ 8 * length c.self.inside.bytes.items + c.self.inside.held = sym (ap length c.self.view_is) ∙ length-written c.self.inside.bytes.items c.self.inside.held c.self.inside.word in
    (omega arith, omega arith)

pub returns-then-self-ge32-clause-value : goal.returns-then-self-ge32-clause-value
returns-then-self-ge32-clause-value g c =
    moved_out (bits_of c.self.inside.bytes.items) (bits_of c.push_word.new.bytes.items) (c.self.inside.held + c.args.n) (c.self.inside.held + c.args.n - 32) _ (omega arith) c.push_word.ensures.bits
    ∙ joined (bits_of c.self.inside.bytes.items) c.args.self.now c.self.inside.held c.args.n c.self.inside.word c.args.v (omega arith) c.requires.bits c.requires.value c.self.view_is

pub returns-then-self-ge32-clause-len : goal.returns-then-self-ge32-clause-len
returns-then-self-ge32-clause-len g c = ap length (returns-then-self-ge32-clause-value g c) ∙ grown c.args.self.now c.args.n c.args.v

pub returns-else-self-ge32-clause-value : goal.returns-else-self-ge32-clause-value
returns-else-self-ge32-clause-value g c =
    joined (bits_of c.self.inside.bytes.items) c.args.self.now c.self.inside.held c.args.n c.self.inside.word c.args.v (omega arith) c.requires.bits c.requires.value c.self.view_is

pub returns-else-self-ge32-clause-len : goal.returns-else-self-ge32-clause-len
returns-else-self-ge32-clause-len g c = ap length (returns-else-self-ge32-clause-value g c) ∙ grown c.args.self.now c.args.n c.args.v
