use Rattle.std.proofs.Common.{◌∙◌, ℕ, ap}
use Rattle.image_calls.specs.Verdicts.{verdict_reported}
use Rattle.image_calls.specs.declared.verdicts.EtcsReplay.{EtcsReplay}
use Rattle.image_calls.specs.declared.verdicts.Span.{Span}
use Rattle.image_calls.proofs.verdicts.head_differs.Goals as goal

pub returns : goal.returns
returns c =
    let b = c.args.block.now in
    let j = c.kept_reported-all.result in
    let k = c.kept_reported-all-2.result in
    let span : Span = record { first_event = 0; last_event = 0; life = b.kept.lives } in (
      j,
      k,
      c.kept_reported-all.ensures,
      c.kept_reported-all-2.ensures,
      ap (λ (x : EtcsReplay). record x { block = b.number; field = c.kept_field_number.result; journal_kept = j; kernel_kept = k }) c.verdict_reported-all.ensures
          ∙ ap (λ (f : ℕ). record (verdict_reported span 3) { block = b.number; field = f; journal_kept = j; kernel_kept = k }) c.kept_field_number.ensures,
    )
