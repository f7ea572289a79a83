use Rattle.std.proofs.Common.{take, flat_map}
use Rattle.std.specs.Io.KnownBytes.{Appends}
use Rattle.text_output.specs.Pieces.{text_of}
use Rattle.text_output.proofs.writing.write_each.Given as goal

abbrev pub invariant-loop-piece : goal.invariant-loop-piece
invariant-loop-piece g l = Appends (g.W.Write.contents l.fn.out) (g.W.Write.contents l.out) (flat_map (text_of l.form) (take l.piece-index l.pieces))
