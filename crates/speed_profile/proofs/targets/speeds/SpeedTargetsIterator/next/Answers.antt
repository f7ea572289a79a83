use Rattle.std.proofs.Common.{◌≡◌, [], ap, sym, ◌∙◌, arith}
use Rattle.std.specs.Prelude.{None}
use Rattle.speed_profile.specs.Targets.{Left}
use Rattle.speed_profile.proofs.Asking.{equal, through, one_reported, passed_over}
use Rattle.speed_profile.proofs.Starting.{none_left, some_left}
use Rattle.speed_profile.proofs.targets.speeds.SpeedTargetsIterator.next.Goals as goal

pub returns-then-is_some-clause-steps : goal.returns-then-is_some-clause-steps
returns-then-is_some-clause-steps g c =
    one_reported c.args.self.now c.next_piece-target.new.self c.loop-self.self.targets c.next_piece-target.result
    c.loop-self.invariant.0 c.next_piece-target.ensures.requested (sym c.is_some-in-loop-self.ensures ∙ c.if-is_some.true)

pub returns-clause-steps : goal.returns-clause-steps
returns-clause-steps g c =
    let ended : c.loop-self.self ≡ record { targets = []; most = 0; speeds_from = None } =
    c.start.ensures.none (none_left c.start.result (sym c.is_some.ensures ∙ c.loop-self-test.false)) in
    let none = equal c.loop-self.self.targets [] (ap (λ (left : Left). left.targets) ended) in
    (through c.args.self.now.targets c.loop-self.self.targets [] c.loop-self.invariant.0 none, none, ap (λ (left : Left). left.most) ended)

pub loop-self-preserved : goal.loop-self-preserved
loop-self-preserved g c =
    let fewer = some_left c.start.result c.loop-self.self.speeds_from c.next_piece-target.new.self.most c.loop-self.self.most
    (sym c.is_some.ensures ∙ c.loop-self-test.true) c.start.ensures.place c.next_piece-target.ensures.fewer in (
      passed_over c.args.self.now.targets c.loop-self.self.targets c.next_piece-target.new.self.targets c.next_piece-target.result
          c.loop-self.invariant.0 c.next_piece-target.ensures.requested (sym c.is_some-in-loop-self.ensures ∙ c.if-is_some.false),
      omega (arith, c.loop-self.invariant.1, fewer),
    )

pub loop-self-smaller : goal.loop-self-smaller
loop-self-smaller g c =
    some_left c.start.result c.loop-self.self.speeds_from c.next_piece-target.new.self.most c.loop-self.self.most
    (sym c.is_some.ensures ∙ c.loop-self-test.true) c.start.ensures.place c.next_piece-target.ensures.fewer
