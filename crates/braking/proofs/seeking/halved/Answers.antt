use Rattle.std.proofs.Common.{◌≡◌, ℕ, ◌+◌, ◌<◌, ◌≤◌, subst, arith}
use Rattle.braking.specs.Sums.{IsEnough}
use Rattle.braking.proofs.seeking.halved.Goals as goal

-- what fails at the end fails after the speed below it
next_fails : (P : ℕ → Type 0) (least end high : ℕ) → end ≤ least + 1 → (end < high → (least < end) × ¬ (P end)) → least + 1 < high → P (least + 1) → ⊥
next_fails P least end high close next below holds =
    let there : (least < end) × ¬ (P end) = next (omega arith) in
    let is : least + 1 ≡ end = omega (arith, there.0) in
    there.1 (subst P is holds)

pub returns-in-Some-starting_at-clause-next : goal.returns-in-Some-starting_at-clause-next
returns-in-Some-starting_at-clause-next c =
    let none : c.loop-middle.end ≤ c.loop-middle.least + 1 = rw c.in_default.is at c.halfway.ensures in
    next_fails (λ v. IsEnough c.args.front c.args.brakes.now c.args.target.now c.args.stretch.now v)
    c.loop-middle.least c.loop-middle.end c.args.high none c.loop-middle.invariant.next

pub returns-in-None-clause-next : goal.returns-in-None-clause-next
returns-in-None-clause-next c =
    let none : c.loop-middle.end ≤ c.loop-middle.least + 1 = rw c.in_default.is at c.halfway.ensures in
    next_fails (λ v. IsEnough c.args.front c.args.brakes.now c.args.target.now c.args.stretch.now v)
    c.loop-middle.least c.loop-middle.end c.args.high none c.loop-middle.invariant.next
