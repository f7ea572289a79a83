use Rattle.std.proofs.Common.{◌+◌}
use Rattle.std.specs.Prelude.{IsSome}
use Rattle.std.specs.List.{AllWithin}
use Rattle.track_store.proofs.segments.all_have_values.Given as goal

-- those so far have a value
abbrev pub invariant-loop-segment : goal.invariant-loop-segment
invariant-loop-segment g l = AllWithin (λ segment. IsSome segment.value) l.fn.segments l.fn.first (l.fn.first + l.segment-index)
