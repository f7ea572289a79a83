use Rattle.std.proofs.Common.{ℕ, ◌+◌, ◌*◌, ◌/◌, ◌<◌, arith}
use Rattle.std.proofs.Math.Nat.{lt-mul-div-succ}
use Rattle.braking.proofs.Roots.{half_above, step_down}
use Rattle.braking.proofs.seeking.root.Goals as goal

pub loop-root-init : goal.loop-root-init
loop-root-init c =
    let square : ℕ = c.from.result * c.from-2.result + c.args.taken_off in
    let near : ℕ = c.max-near.result in
    let some : 0 < near = omega (arith, c.max-near.ensures) in
    let quotient : ℕ = square / near in
    record {
      within = omega (arith, c.min-root.ensures);
      next = λ below. half_above square near quotient c.min-root.result (lt-mul-div-succ square {b = near} some) (omega (arith, below, c.min-root.ensures));
    }

pub loop-root-preserved : goal.loop-root-preserved
loop-root-preserved c =
    let square : ℕ = c.from.result * c.from-2.result + c.args.taken_off in
    let step = step_down square c.loop-root.root (omega (arith, c.loop-root-test.true)) in
    record {
      within = omega (arith, step.0, c.loop-root.invariant.within);
      next = λ below. step.1;
    }
