use Rattle.std.proofs.Common.{◌≡◌, ◌+◌, ◌-◌, ◌*◌, ◌≤◌, length, take, IsTrue}
use Rattle.disk.specs.State.{AreOpen}
use Rattle.file_disk.specs.Files.{bytes_of, whole_disk, overwritten, WritesOnly}
use Rattle.file_disk.proofs.whole.write_all.Given as goal

abbrev pub invariant-loop-done : goal.invariant-loop-done
invariant-loop-done g l = record {
  within : l.done ≤ length l.bytes;
  honest : (g.F.RawFile.state l.file).honest ≡ (g.F.RawFile.state l.initial.file).honest;
  only : IsTrue (g.F.RawFile.state l.initial.file).honest → 512 * l.first + length l.bytes ≤ length (bytes_of (g.F.RawFile.state l.initial.file)) →
      WritesOnly l.first (length l.bytes) (g.F.RawFile.state l.initial.file) (g.F.RawFile.state l.file);
  written : IsTrue (g.F.RawFile.state l.initial.file).honest → 512 * l.first + length l.bytes ≤ length (bytes_of (g.F.RawFile.state l.initial.file)) →
      bytes_of (g.F.RawFile.state l.file) ≡ overwritten (bytes_of (g.F.RawFile.state l.initial.file)) (512 * l.first) (take l.done l.bytes);
  opened : IsTrue (g.F.RawFile.state l.initial.file).honest → 512 * l.first + length l.bytes ≤ length (bytes_of (g.F.RawFile.state l.initial.file)) →
      AreOpen (whole_disk (g.F.RawFile.state l.file)) l.first l.done;
}

abbrev pub decreases-loop-done : goal.decreases-loop-done
decreases-loop-done g l = length l.bytes - l.done
