use Rattle.std.proofs.Common.{◌≡◌, ◌+◌, ◌-◌, ◌<◌, ltb-true, length, ap, sym, ◌∙◌, arith}
use Rattle.std.specs.Prelude.{None}
use Rattle.track_store.specs.declared.segments.Segment.{Segment}
use Rattle.track_store.proofs.Apart.{beyond_last}
use Rattle.track_store.proofs.segments.value_at_end.Goals as goal

pub returns : goal.returns
returns g c =
    let segments = c.args.segments.now in
    let found : Segment _ = c.in_ok-last.field-0.now in
    let some : 0 < length segments = ltb-true _ _ (sym c.in_ok-last.ensures.item.0) in
    let last : (length segments - 1) + 1 ≡ length segments = omega arith in
    ap (λ (s : Segment _). s.value) c.in_ok-last.ensures.item.1 ∙ sym (beyond_last None segments (length segments - 1) found last)
