use Rattle.std.proofs.Common.{◌≡◌, ◌+◌, ◌*◌, ◌%◌, ◌++◌, length, drop, arith, ap, ◌∙◌}
use Rattle.std.proofs.lemmas.List.{drop-drop}
use Rattle.bits.proofs.Writes.{copied_more}
use Rattle.bits.proofs.writer.BitWriter.write_run.Goals as goal

pub loop-i-preserved : goal.loop-i-preserved
loop-i-preserved g c =
    let e : 32 * c.loop-i.i + 32 ≡ 32 * (c.loop-i.i + 1) = omega arith in
    record {
      so_far = copied_more c.args.self.now c.bits-bits.result c.loop-i.bits c.loop-i.self c.copy.new.self (32 * c.loop-i.i) 32 _ e c.loop-i.invariant.so_far c.loop-i.invariant.left c.copy.ensures.value;
      left = c.copy.ensures.rest ∙ ap (drop 32) c.loop-i.invariant.left ∙ drop-drop 32 (32 * c.loop-i.i) c.bits-bits.result ∙ ap (λ k. drop k c.bits-bits.result) e;
    }

pub returns-clause-value : goal.returns-clause-value
returns-clause-value g c =
    let e : 32 * c.loop-i.i + c.len-len.result % 32 ≡ length c.args.run.now = omega arith in
    copied_more c.args.self.now c.bits-bits.result c.loop-i.bits c.loop-i.self c.copy-2.new.self (32 * c.loop-i.i) (c.len-len.result % 32) _ e c.loop-i.invariant.so_far c.loop-i.invariant.left c.copy-2.ensures.value
    ∙ ap (λ t. c.args.self.now ++ t) c.bits-bits.ensures.front
