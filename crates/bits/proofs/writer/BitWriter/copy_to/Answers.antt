use Rattle.std.proofs.Common.{◌≡◌, ◌+◌, ◌*◌, ◌++◌, List, ℕ, length, take, drop, arith, ap, sym, ◌∙◌, length-take, length-append}
use Rattle.std.proofs.lemmas.List.{drop_at}
use Rattle.bits.specs.Bits.{bits_of}
use Rattle.bits.proofs.Writes.{length-written, written_over, both_parts}
use Rattle.bits.proofs.writer.BitWriter.copy_to.Given.{Over}
use Rattle.bits.proofs.writer.BitWriter.copy_to.Goals as goal

pub returns-clause-len : goal.returns-clause-len
returns-clause-len g c =
    let long : length c.args.self.now ≡ 8 * length c.self.inside.bytes.items + c.self.inside.held = sym (ap length c.self.view_is) ∙ length-written c.self.inside.bytes.items c.self.inside.held c.self.inside.word in
    omega arith

-- the bytes of `out`: those of the writer, the last ones, and what stood after them
all_of : (g : Over) (c : goal.After-out-2-1 g) → c.write_over-2.new.out ≡ (c.self.inside.bytes.items ++ take c.last_bytes-more.result.1 c.last_bytes-more.result.0) ++ drop (c.len-whole.result + length (take c.last_bytes-more.result.1 c.last_bytes-more.result.0)) c.args.out.now
all_of g c =
    let same : c.as_slice.result.now ≡ c.self.inside.bytes.items = c.as_slice.ensures.value in
    written_over c.self.inside.bytes.items (take c.last_bytes-more.result.1 c.last_bytes-more.result.0) c.args.out.now c.write_over.new.out c.write_over-2.new.out
    c.len-whole.result (length (take c.last_bytes-more.result.1 c.last_bytes-more.result.0)) c.len-whole.ensures.value
    (c.write_over.ensures ∙ ap (λ (t : List ℕ). t ++ drop (0 + length t) c.args.out.now) same) c.write_over-2.ensures

some_of : (g : Over) (c : goal.After-out-2-1 g) → c.last_bytes-more.result.1 ≡ length (take c.last_bytes-more.result.1 c.last_bytes-more.result.0)
some_of g c =
    let four : length c.last_bytes-more.result.0 ≡ 4 = omega (arith, c.last_bytes-more.type_inv) in
    omega (arith, length-take c.last_bytes-more.result.1 c.last_bytes-more.result.0)

pub returns-clause-bits : goal.returns-clause-bits
returns-clause-bits g c =
    ap (λ (t : List ℕ). bits_of (take (c.len-whole.result + c.last_bytes-more.result.1) t)) (all_of g c)
    ∙ both_parts c.self.inside.bytes.items (take c.last_bytes-more.result.1 c.last_bytes-more.result.0) _ c.args.self.now c.self.inside.held c.self.inside.word
    c.last_bytes-more.result.1 c.len-whole.result c.len-whole.ensures.value (some_of g c) c.self.view_is c.last_bytes-more.ensures.bits

pub returns-clause-rest : goal.returns-clause-rest
returns-clause-rest g c =
    let long : length (c.self.inside.bytes.items ++ take c.last_bytes-more.result.1 c.last_bytes-more.result.0) ≡ c.len-whole.result + c.last_bytes-more.result.1 =
    omega (arith, length-append c.self.inside.bytes.items (take c.last_bytes-more.result.1 c.last_bytes-more.result.0), some_of g c, c.len-whole.ensures.value) in
    ap (drop (c.len-whole.result + c.last_bytes-more.result.1)) (all_of g c) ∙ drop_at _ _ (c.len-whole.result + c.last_bytes-more.result.1) long
    ∙ ap (λ (k : ℕ). drop (c.len-whole.result + k) c.args.out.now) (sym (some_of g c))
