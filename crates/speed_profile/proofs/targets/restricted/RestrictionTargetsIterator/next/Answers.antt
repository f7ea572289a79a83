use Rattle.std.proofs.Common.{List, [], ◌∷◌, ◌++◌, length, ap, sym, ◌∙◌, arith}
use Rattle.std.specs.Prelude.{None}
use Rattle.std.proofs.lemmas.List.{nil_from_length}
use Rattle.track_store.specs.declared.restriction.Restriction.{Restriction}
use Rattle.track_store.specs.Profiles.{listed}
use Rattle.speed_profile.specs.Ahead.{over_ahead, restriction_targets}
use Rattle.speed_profile.specs.Starts.{first_target}
use Rattle.speed_profile.specs.Targets.{AskTheSame}
use Rattle.speed_profile.proofs.Asking.{requested_at, one_reported, passed_over, nothing_by, through}
use Rattle.speed_profile.proofs.Reaching.{restriction_asks, no_restriction_asks}
use Rattle.speed_profile.proofs.targets.restricted.RestrictionTargetsIterator.next.Goals as goal

pub returns-then-is_some-clause-steps : goal.returns-then-is_some-clause-steps
returns-then-is_some-clause-steps c =
    let self = c.loop-first.self-inside in
    let others = c.in-Some.others.now in
    let ahead = λ (items : List Restriction). over_ahead self.front (restriction_targets self.mark items) in
    let requested : AskTheSame (ahead self.left.now) (listed c.first_target-target.result ++ ahead others) =
    requested_at (ahead self.left.now) (ahead (c.in-Some.first.now ∷ others)) (ahead others) c.first_target-target.result (first_target self.front self.mark c.in-Some.first.now)
    (ap ahead c.in-Some.ensures.cases.0) c.first_target-target.ensures (restriction_asks self.front self.mark c.in-Some.first.now others) in
    one_reported c.args.self.now (record { targets = ahead others; most = length others; speeds_from = None }) (ahead self.left.now) c.first_target-target.result
    c.loop-first.invariant.0 requested (sym c.is_some.ensures ∙ c.if-is_some.true)

pub loop-first-preserved : goal.loop-first-preserved
loop-first-preserved c =
    let self = c.loop-first.self-inside in
    let others = c.in-Some.others.now in
    let ahead = λ (items : List Restriction). over_ahead self.front (restriction_targets self.mark items) in
    let requested : AskTheSame (ahead self.left.now) (listed c.first_target-target.result ++ ahead others) =
    requested_at (ahead self.left.now) (ahead (c.in-Some.first.now ∷ others)) (ahead others) c.first_target-target.result (first_target self.front self.mark c.in-Some.first.now)
    (ap ahead c.in-Some.ensures.cases.0) c.first_target-target.ensures (restriction_asks self.front self.mark c.in-Some.first.now others) in (
      passed_over c.args.self.now.targets (ahead self.left.now) (ahead others) c.first_target-target.result
          c.loop-first.invariant.0 requested (sym c.is_some.ensures ∙ c.if-is_some.false),
      omega (arith, c.loop-first.invariant.1, c.in-Some.ensures.cases.1),
    )

pub returns-clause-steps : goal.returns-clause-steps
returns-clause-steps c =
    let self = c.loop-first.self-inside in
    let ahead = λ (items : List Restriction). over_ahead self.front (restriction_targets self.mark items) in
    let left = nil_from_length self.left.now c.in_default.ensures.cases in
    let none = nothing_by (ahead self.left.now) (ahead []) (ap ahead left) (no_restriction_asks self.front self.mark) in
    (through c.args.self.now.targets (ahead self.left.now) [] c.loop-first.invariant.0 none, none, c.in_default.ensures.cases)
