use Rattle.std.proofs.Common.{◌≡◌, ◌*◌, ◌++◌, take, drop}
use Rattle.bits.proofs.writer.BitWriter.write_run.Given as goal

abbrev pub invariant-loop-i : goal.invariant-loop-i
invariant-loop-i g l = record {
  so_far : l.self ≡ l.fn.self ++ take (32 * l.i) l.initial.bits;
  left : l.bits ≡ drop (32 * l.i) l.initial.bits;
}
