use Rattle.std.proofs.Common.{◌≡◌, ◌+◌, ◌-◌, ◌*◌, ◌≤◌, length, arith, ap, sym, ◌∙◌, take, drop}
use Rattle.std.proofs.Math.Seq.{drop-drop}
use Rattle.bits.specs.Bits.{number}
use Rattle.bits.proofs.Numbers.{number-parts, joined_lt}
use Rattle.bits.proofs.reader.BitReader.take_long.Goals as goal

pub returns-clause-value : goal.returns-clause-value
returns-clause-value c =
    let n : c.args.n - 32 + 32 ≡ c.args.n = omega arith in
    let long : c.args.n ≤ length c.args.self.now = c.has.ensures.0 c.if-not-has.false in
    let parts : number (take (c.args.n - 32 + 32) c.args.self.now) ≡ number (take (c.args.n - 32) c.args.self.now) * 4294967296 + number (take 32 (drop (c.args.n - 32) c.args.self.now)) = number-parts (c.args.n - 32) 32 c.args.self.now (omega arith) in
    rw (c.in_ok-high.ensures.value, c.in_ok-low.ensures.value, c.in_ok-high.ensures.rest) (sym parts ∙ ap (λ k. number (take k c.args.self.now)) n)

pub returns-clause-bound : goal.returns-clause-bound
returns-clause-bound c = joined_lt (c.args.n - 32) c.args.n c.in_ok-high.high c.in_ok-low.low (omega arith) c.in_ok-high.ensures.bound c.in_ok-low.ensures.bound

pub returns-clause-rest : goal.returns-clause-rest
returns-clause-rest c =
    let n : c.args.n - 32 + 32 ≡ c.args.n = omega arith in
    rw (c.in_ok-low.ensures.rest, c.in_ok-high.ensures.rest) (drop-drop 32 (c.args.n - 32) c.args.self.now ∙ ap (λ k. drop k c.args.self.now) n)
