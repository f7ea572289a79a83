use Rattle.std.proofs.Common.{◌≡◌, ◌-◌, ◌*◌, ◌≤◌, length, take, drop, IsTrue}
use Rattle.file_disk.specs.Files.{bytes_of}
use Rattle.file_disk.proofs.whole.read_all.Given as goal

abbrev pub invariant-loop-done : goal.invariant-loop-done
invariant-loop-done g l = record {
  within : l.done ≤ length l.bytes;
  read : IsTrue (g.F.RawFile.state l.file).honest → take l.done l.bytes ≡ take l.done (drop (512 * l.first) (bytes_of (g.F.RawFile.state l.file)));
}

abbrev pub decreases-loop-done : goal.decreases-loop-done
decreases-loop-done g l = length l.initial.bytes - l.done
