use Rattle.std.proofs.Common.{◌≡◌, ◌+◌, ◌*◌, length, arith, ap, sym, ◌∙◌}
use Rattle.bits.proofs.Windows.{length-window}
use Rattle.bits.proofs.reader.BitReader.remaining.Goals as goal

pub returns-clause-value : goal.returns-clause-value
returns-clause-value c =
    let left : length c.args.self.now ≡ c.self.inside.window.held + 8 * length c.self.inside.window.rest.now = sym (ap length c.self.view_is) ∙ length-window c.self.inside.window in
    omega (arith, left, c.from.ensures)
