use Rattle.std.proofs.Common.{take, flat_map}
use Rattle.std.specs.Io.KnownBytes.{Appends}
use Rattle.decoding.specs.Lines.{field_text}
use Rattle.decoding.proofs.report.write_fields.Given as goal

abbrev pub invariant-loop-field : goal.invariant-loop-field
invariant-loop-field g l = Appends (g.W.Write.contents l.fn.out) (g.W.Write.contents l.out) (flat_map field_text (take l.field-index l.fields))
