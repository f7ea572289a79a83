use Rattle.std.proofs.Common.{◌≡◌, ◌-◌, ◌*◌, ◌≤◌, replicate, IsTrue}
use Rattle.file_disk.specs.Files.{bytes_of}
use Rattle.file_disk.proofs.whole.write_zeros.Given as goal

abbrev pub invariant-loop-done : goal.invariant-loop-done
invariant-loop-done g l = record {
  within : l.done ≤ l.sectors;
  honest : (g.F.RawFile.state l.file).honest ≡ (g.F.RawFile.state l.initial.file).honest;
  zeros : IsTrue (g.F.RawFile.state l.initial.file).honest → bytes_of (g.F.RawFile.state l.initial.file) ≡ replicate (512 * l.sectors) 0 →
      bytes_of (g.F.RawFile.state l.file) ≡ replicate (512 * l.sectors) 0;
}

abbrev pub decreases-loop-done : goal.decreases-loop-done
decreases-loop-done g l = l.sectors - l.done
