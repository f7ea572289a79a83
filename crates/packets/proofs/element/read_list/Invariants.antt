use Rattle.std.proofs.Common.{◌≡◌, ◌+◌, ◌-◌, length}
use Rattle.bits.specs.Layout.{read, read_more}
use Rattle.packets.proofs.element.read_list.Given as goal

abbrev pub invariant-loop-i : goal.invariant-loop-i
invariant-loop-i g l = record {
  so_far : read_more (read g.T.Element.layout) (l.count - l.i) l.list.items l.reader ≡ read_more (read g.T.Element.layout) l.count l.fn.list.items l.fn.reader;
  space : length l.list.items ≡ length l.fn.list.items + l.i;
}
