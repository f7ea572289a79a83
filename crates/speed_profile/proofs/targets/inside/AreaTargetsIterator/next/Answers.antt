use Rattle.std.proofs.Common.{List, [], ◌∷◌, ◌++◌, length, ap, sym, ◌∙◌, arith}
use Rattle.std.specs.Prelude.{None}
use Rattle.std.proofs.lemmas.List.{nil_from_length}
use Rattle.areas.specs.declared.area.Area.{Area}
use Rattle.track_store.specs.Profiles.{listed}
use Rattle.speed_profile.specs.Ahead.{over_ahead, area_targets}
use Rattle.speed_profile.specs.Starts.{first_in_area}
use Rattle.speed_profile.specs.Targets.{AskTheSame}
use Rattle.speed_profile.proofs.Asking.{requested_at, one_reported, passed_over, nothing_by, through}
use Rattle.speed_profile.proofs.Reaching.{area_asks, no_area_asks}
use Rattle.speed_profile.proofs.targets.inside.AreaTargetsIterator.next.Goals as goal

pub returns-then-is_some-clause-steps : goal.returns-then-is_some-clause-steps
returns-then-is_some-clause-steps c =
    let self = c.loop-first.self-inside in
    let others = c.in-Some.others.now in
    let ahead = λ (items : List Area). over_ahead self.front (area_targets self.national items) in
    let requested : AskTheSame (ahead self.left.now) (listed c.first_in_area-target.result ++ ahead others) =
    requested_at (ahead self.left.now) (ahead (c.in-Some.first.now ∷ others)) (ahead others) c.first_in_area-target.result (first_in_area self.front self.national c.in-Some.first.now)
    (ap ahead c.in-Some.ensures.cases.0) c.first_in_area-target.ensures (area_asks self.front self.national c.in-Some.first.now others) in
    one_reported c.args.self.now (record { targets = ahead others; most = length others; speeds_from = None }) (ahead self.left.now) c.first_in_area-target.result
    c.loop-first.invariant.0 requested (sym c.is_some.ensures ∙ c.if-is_some.true)

pub loop-first-preserved : goal.loop-first-preserved
loop-first-preserved c =
    let self = c.loop-first.self-inside in
    let others = c.in-Some.others.now in
    let ahead = λ (items : List Area). over_ahead self.front (area_targets self.national items) in
    let requested : AskTheSame (ahead self.left.now) (listed c.first_in_area-target.result ++ ahead others) =
    requested_at (ahead self.left.now) (ahead (c.in-Some.first.now ∷ others)) (ahead others) c.first_in_area-target.result (first_in_area self.front self.national c.in-Some.first.now)
    (ap ahead c.in-Some.ensures.cases.0) c.first_in_area-target.ensures (area_asks self.front self.national c.in-Some.first.now others) in (
      passed_over c.args.self.now.targets (ahead self.left.now) (ahead others) c.first_in_area-target.result
          c.loop-first.invariant.0 requested (sym c.is_some.ensures ∙ c.if-is_some.false),
      omega (arith, c.loop-first.invariant.1, c.in-Some.ensures.cases.1),
    )

pub returns-clause-steps : goal.returns-clause-steps
returns-clause-steps c =
    let self = c.loop-first.self-inside in
    let ahead = λ (items : List Area). over_ahead self.front (area_targets self.national items) in
    let left = nil_from_length self.left.now c.in_default.ensures.cases in
    let none = nothing_by (ahead self.left.now) (ahead []) (ap ahead left) (no_area_asks self.front self.national) in
    (through c.args.self.now.targets (ahead self.left.now) [] c.loop-first.invariant.0 none, none, c.in_default.ensures.cases)
