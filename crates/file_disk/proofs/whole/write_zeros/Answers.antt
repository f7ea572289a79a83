use Rattle.std.proofs.Common.{◌≡◌, ◌+◌, ◌*◌, ◌≤◌, ◌∙◌, ℕ, length, take, replicate, arith, ap}
use Rattle.std.proofs.lemmas.List.{length-replicate, take-replicate}
use Rattle.file_disk.specs.Files.{bytes_of}
use Rattle.file_disk.proofs.Parts.{zeros_over_zeros}
use Rattle.file_disk.proofs.whole.write_zeros.Goals as goal

pub loop-done-preserved : goal.loop-done-preserved
loop-done-preserved g c =
    let count : ℕ = c.min-count.result * 512 in
    let few : count ≤ 8192 = omega (arith, c.min-count.ensures) in
    let inside : 512 * c.loop-done.done + count ≤ 512 * c.args.sectors = omega (arith, c.min-count.ensures, c.loop-done-test.true) in
    let these : take count (replicate {A = ℕ} 8192 0) ≡ replicate count 0 = take-replicate count 8192 0 few in
    record {
      within = omega (arith, c.min-count.ensures, c.loop-done-test.true);
      honest = c.write_all.ensures.honest ∙ c.loop-done.invariant.honest;
      zeros = λ honest zeros.
          let before = c.loop-done.invariant.zeros honest zeros in
          let size : length (bytes_of (g.F.RawFile.state c.loop-done.file)) ≡ 512 * c.args.sectors = ap length before ∙ length-replicate (512 * c.args.sectors) 0 in
          c.in_ok-write_all.ensures.written (c.loop-done.invariant.honest ∙ honest) (omega (arith, size, inside, ap length these, length-replicate {A = ℕ} count 0))
          ∙ zeros_over_zeros (bytes_of (g.F.RawFile.state c.loop-done.file)) _ (512 * c.loop-done.done) count (512 * c.args.sectors) before these inside;
    }
