use Rattle.std.proofs.Common.{◌≡◌, ◌+◌, ◌-◌, ◌*◌, ◌/◌, ◌%◌, ◌≤◌, length, arith, ap, sym, ◌∙◌, take, drop, length-drop}
use Rattle.bits.specs.Bits.{bits_of}
use Rattle.bits.specs.Window.{window_bits}
use Rattle.bits.proofs.Bytes.{past}
use Rattle.bits.proofs.Windows.{length-window, left_of, skipped, skipped_even, none_held}
use Rattle.bits.proofs.window.Window.skip.Goals as goal

pub returns-then-n-self-clause-bits : goal.returns-then-n-self-clause-bits
returns-then-n-self-clause-bits c = sym (left_of c.args.n c.args.self.now.held c.args.self.now.word (bits_of c.args.self.now.rest.now) c.if-n-self.true)

pub slice_bounds-self-count : goal.slice_bounds-self-count
slice_bounds-self-count c =
    let long : length (window_bits c.args.self.now) ≡ c.args.self.now.held + 8 * length c.args.self.now.rest.now = length-window c.args.self.now in
    omega (arith, long, c.requires.some)

pub slice_bounds-self-start : goal.slice_bounds-self-start
slice_bounds-self-start c =
    let long : length (window_bits c.args.self.now) ≡ c.args.self.now.held + 8 * length c.args.self.now.rest.now = length-window c.args.self.now in
    omega (arith, long, c.requires.some)

pub overflow_sub-self-then-more-gt0 : goal.overflow_sub-self-then-more-gt0
overflow_sub-self-then-more-gt0 c =
    let long : length (window_bits c.args.self.now) ≡ c.args.self.now.held + 8 * length c.args.self.now.rest.now = length-window c.args.self.now in
    let left : length (take (length c.args.self.now.rest.now - (c.args.n - c.args.self.now.held) / 8) (drop ((c.args.n - c.args.self.now.held) / 8) c.args.self.now.rest.now)) ≡ length c.args.self.now.rest.now - (c.args.n - c.args.self.now.held) / 8 = ap length (past ((c.args.n - c.args.self.now.held) / 8) c.args.self.now.rest.now) ∙ length-drop ((c.args.n - c.args.self.now.held) / 8) c.args.self.now.rest.now in
    let some : c.byte.new.self.held ≡ 8 = omega (arith, c.byte.ensures.some (omega (arith, long, left, c.requires.some))) in
    omega (arith, some)

pub returns-then-more-gt0-clause-bits : goal.returns-then-more-gt0-clause-bits
returns-then-more-gt0-clause-bits c =
    let long : length (window_bits c.args.self.now) ≡ c.args.self.now.held + 8 * length c.args.self.now.rest.now = length-window c.args.self.now in
    let left : length (take (length c.args.self.now.rest.now - (c.args.n - c.args.self.now.held) / 8) (drop ((c.args.n - c.args.self.now.held) / 8) c.args.self.now.rest.now)) ≡ length c.args.self.now.rest.now - (c.args.n - c.args.self.now.held) / 8 = ap length (past ((c.args.n - c.args.self.now.held) / 8) c.args.self.now.rest.now) ∙ length-drop ((c.args.n - c.args.self.now.held) / 8) c.args.self.now.rest.now in
    let some : c.byte.new.self.held ≡ 8 = omega (arith, c.byte.ensures.some (omega (arith, long, left, c.requires.some))) in
    let k : (c.args.n - c.args.self.now.held) % 8 ≤ c.byte.new.self.held = omega (arith, some) in
    let past_bytes : window_bits c.byte.new.self ≡ bits_of (take (length c.args.self.now.rest.now - (c.args.n - c.args.self.now.held) / 8) (drop ((c.args.n - c.args.self.now.held) / 8) c.args.self.now.rest.now)) = c.byte.ensures.same ∙ none_held _ _ in
    sym (left_of _ c.byte.new.self.held c.byte.new.self.word (bits_of c.byte.new.self.rest.now) k) ∙ ap (drop ((c.args.n - c.args.self.now.held) % 8)) past_bytes ∙ skipped c.args.n c.args.self.now.held c.args.self.now.word c.args.self.now.rest.now (omega arith)

pub returns-else-more-gt0-clause-bits : goal.returns-else-more-gt0-clause-bits
returns-else-more-gt0-clause-bits c = none_held _ _ ∙ skipped_even c.args.n c.args.self.now.held c.args.self.now.word c.args.self.now.rest.now (omega arith) (omega arith)
