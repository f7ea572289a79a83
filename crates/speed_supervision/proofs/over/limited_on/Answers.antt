use Rattle.std.proofs.Common.{ap, sym, ◌∙◌, ◌≡◌, ℤ, ◌≤ℤ◌}
use Rattle.speed_profile.specs.Limit.{limiting_value}
use Rattle.speed_supervision.proofs.Naming.{within, not_within}
use Rattle.speed_supervision.proofs.over.limited_on.Goals as goal

pub returns-in_default : goal.returns-in_default
returns-in_default c there low before high h =
    c.in_default.ensures there (ap (λ (m : ℤ). limiting_value c.args.category m there c.args.here.now.value) c.min_front.ensures.value ∙ h)

pub returns-then-is_within : goal.returns-then-is_within
returns-then-is_within c =
    let first : ℤ = c.in-Some.first in
    let max : c.max_front.result ≡ c.args.train.now.max_front = c.max_front.ensures.value in
    let w = within first c.max_front.result c.args.here.now.next (sym c.is_within.ensures ∙ c.if-is_within.true) in
    let high : first ≤ℤ c.args.train.now.max_front = rw max at w.1 in
    let value = ap (λ (m : ℤ). limiting_value c.args.category m first c.args.here.now.value) c.min_front.ensures.value in
    (c.in-Some.ensures.0, w.0, high, sym value ∙ c.in-Some.ensures.1)

pub returns : goal.returns
returns c there low before high h =
    let first : ℤ = c.in-Some.first in
    let max : c.max_front.result ≡ c.args.train.now.max_front = c.max_front.ensures.value in
    let value = ap (λ (m : ℤ). limiting_value c.args.category m there c.args.here.now.value) c.min_front.ensures.value in
    let last : there ≤ℤ c.max_front.result = rw max high in
    not_within first c.max_front.result there c.args.here.now.next (sym c.is_within.ensures ∙ c.if-is_within.false)
    (c.in-Some.ensures.2 there low (value ∙ h)) before last
