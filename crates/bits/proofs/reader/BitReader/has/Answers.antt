use Rattle.std.proofs.Common.{◌≡◌, ◌+◌, ◌*◌, length, arith, ap, sym, ◌∙◌, refl}
use Rattle.bits.proofs.Windows.{length-window}
use Rattle.bits.proofs.reader.BitReader.has.Goals as goal

pub returns-then-n-self : goal.returns-then-n-self
returns-then-n-self c =
    let left : length c.args.self.now ≡ c.self.inside.window.held + 8 * length c.self.inside.window.rest.now = sym (ap length c.self.view_is) ∙ length-window c.self.inside.window in
    (λ _. omega arith, λ _. refl)

pub returns : goal.returns
returns c =
    let left : length c.args.self.now ≡ c.self.inside.window.held + 8 * length c.self.inside.window.rest.now = sym (ap length c.self.view_is) ∙ length-window c.self.inside.window in
    grind arith
