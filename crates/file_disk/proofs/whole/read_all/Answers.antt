use Rattle.std.proofs.Common.{◌≡◌, ◌+◌, ◌*◌, ◌-◌, length, take, drop, arith, ap, ◌∙◌, rules}
use Rattle.file_disk.specs.Files.{bytes_of}
use Rattle.file_disk.proofs.Parts.{read_more}
use Rattle.file_disk.proofs.whole.read_all.Goals as goal

pub loop-done-preserved : goal.loop-done-preserved
loop-done-preserved g c =
    let file = bytes_of (g.F.RawFile.state c.args.file.now) in
    let place : c.args.first * 512 + c.loop-done.done ≡ 512 * c.args.first + c.loop-done.done = omega arith in
    record {
      within = search rules;
      read = λ honest. read_more c.loop-done.bytes c.read_at.new.bytes file (512 * c.args.first) c.loop-done.done c.in_ok-count.count (length c.loop-done.bytes - c.loop-done.done)
          (omega arith) (search rules) (search rules) (c.loop-done.invariant.read honest)
          (c.in_ok-count.ensures.bytes honest ∙ ap (λ n. take c.in_ok-count.count (drop n file)) place);
    }
