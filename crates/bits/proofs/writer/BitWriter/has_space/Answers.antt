use Rattle.std.proofs.Common.{◌≡◌, ◌+◌, ◌*◌, length, arith, ap, sym, ◌∙◌}
use Rattle.bits.proofs.Writes.{length-written}
use Rattle.bits.proofs.writer.BitWriter.has_space.Goals as goal

pub returns : goal.returns
returns g c =
    let long : length c.args.self.now ≡ 8 * length c.self.inside.bytes.items + c.self.inside.held = sym (ap length c.self.view_is) ∙ length-written c.self.inside.bytes.items c.self.inside.held c.self.inside.word in
    grind arith
