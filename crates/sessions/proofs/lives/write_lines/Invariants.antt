use Rattle.std.proofs.Common.{take}
use Rattle.std.specs.Io.KnownBytes.{Appends}
use Rattle.sessions.specs.Lines.{lines_of}
use Rattle.sessions.proofs.lives.write_lines.Given as goal

abbrev pub invariant-loop-pair : goal.invariant-loop-pair
invariant-loop-pair g l = Appends (g.W.Write.contents l.fn.out) (g.W.Write.contents l.out) (lines_of (take l.pair-index l.pairs))
