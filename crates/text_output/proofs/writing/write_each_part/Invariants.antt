use Rattle.std.proofs.Common.{take, flat_map}
use Rattle.std.specs.Io.KnownBytes.{Appends}
use Rattle.text_output.proofs.Texts.{part_text}
use Rattle.text_output.proofs.writing.write_each_part.Given as goal

abbrev pub invariant-loop-part : goal.invariant-loop-part
invariant-loop-part g l = Appends (g.W.Write.contents l.fn.out) (g.W.Write.contents l.out) (flat_map (part_text l.form) (take l.part-index l.parts))
