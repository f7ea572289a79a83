use Rattle.std.proofs.Common.{◌≡◌, ◌<◌, ◌≤◌, ◌-◌, ltb-true, ltb-false, length, get_or, ap, sym, ◌∙◌, arith}
use Rattle.std.specs.Prelude.{None}
use Rattle.track_store.specs.declared.segments.Segment.{Segment}
use Rattle.track_store.proofs.Searching.{last_among, all_ahead}
use Rattle.track_store.proofs.segments.last_value.Goals as goal

pub returns-in_err-checked_sub : goal.returns-in_err-checked_sub
returns-in_err-checked_sub g c place s =
    let none : 1 ≤ c.args.count → ⊥ = c.in_err-checked_sub.ensures in
    let d : Segment _ = record { start = place; value = None } in
    c.from_residual.ensures ∙ sym (all_ahead None place c.args.segments.now d (λ k a. s.1.1 k d (omega (arith, none)) a))

pub returns-in_err-last : goal.returns-in_err-last
returns-in_err-last g c place s =
    let all : length c.args.segments.now ≤ c.in_ok-checked_sub.field-0 = ltb-false _ _ (sym c.in_err-last.ensures.lookup.0) in
    let last : (1 ≤ c.args.count) × (c.in_ok-checked_sub.field-0 ≡ c.args.count - 1) = c.in_ok-checked_sub.ensures in
    absurd (omega (arith, all, last.0, last.1, s.0))

pub returns : goal.returns
returns g c place s =
    let d : Segment _ = c.in_ok-last.last.now in
    let i = c.in_ok-checked_sub.field-0 in
    let last : (1 ≤ c.args.count) × (i ≡ c.args.count - 1) = c.in_ok-checked_sub.ensures in
    let inside : i < length c.args.segments.now = ltb-true _ _ (sym c.in_ok-last.ensures.lookup.0) in
    let found : d ≡ get_or c.args.segments.now i d = c.in_ok-last.ensures.lookup.1 in
    ap (λ (x : Segment _). x.value) found
    ∙ sym (last_among None place c.args.segments.now i d inside
    (λ k a. s.1.0 k d (omega arith) (omega (arith, last.0, last.1, a)))
    (λ k a b. s.1.1 k d (omega (arith, last.0, last.1, a)) b))
