use Rattle.std.proofs.Common.{◌≡◌, ◌+◌, ◌*◌, ◌<◌, ◌∙◌, ℕ, arith}
use Rattle.file_disk.specs.Files.{bytes_of}
use Rattle.file_disk.proofs.Parts.{length-rest, rest_within, only_more, open_more, written_more}
use Rattle.file_disk.proofs.whole.write_all.Goals as goal

pub returns-in_err-count-clause-only : goal.returns-in_err-count-clause-only
returns-in_err-count-clause-only g c = λ honest within.
    let at : ℕ = c.args.first * 512 + c.loop-done.done in
    let place : at ≡ 512 * c.args.first + c.loop-done.done = omega arith in
    let so_far = c.loop-done.invariant.only honest within in
    only_more c.args.first at c.loop-done.done c.args.bytes.now (g.F.RawFile.state c.args.file.now) (g.F.RawFile.state c.loop-done.file) (g.F.RawFile.state c.write_at.new.self) place c.loop-done.invariant.within so_far
    (c.write_at.ensures.only (c.loop-done.invariant.honest ∙ honest) (rest_within c.args.first at c.loop-done.done _ _ c.args.bytes.now place c.loop-done.invariant.within within so_far.size))

pub returns-then-count-eq0 : goal.returns-then-count-eq0
returns-then-count-eq0 g c = record {
  honest = c.write_at.ensures.honest ∙ c.loop-done.invariant.honest;
  only = λ honest within.
      let at : ℕ = c.args.first * 512 + c.loop-done.done in
      let place : at ≡ 512 * c.args.first + c.loop-done.done = omega arith in
      let so_far = c.loop-done.invariant.only honest within in
      only_more c.args.first at c.loop-done.done c.args.bytes.now (g.F.RawFile.state c.args.file.now) (g.F.RawFile.state c.loop-done.file) (g.F.RawFile.state c.write_at.new.self) place c.loop-done.invariant.within so_far
      (c.write_at.ensures.only (c.loop-done.invariant.honest ∙ honest) (rest_within c.args.first at c.loop-done.done _ _ c.args.bytes.now place c.loop-done.invariant.within within so_far.size));
  written = λ honest within. tt;
  opened = λ honest within. tt;
}

pub loop-done-preserved : goal.loop-done-preserved
loop-done-preserved g c =
    let at : ℕ = c.args.first * 512 + c.loop-done.done in
    let place : at ≡ 512 * c.args.first + c.loop-done.done = omega arith in
    let some : 0 < c.in_ok-count.count = omega (arith, c.if-count-eq0.false) in
    let old = g.F.RawFile.state c.args.file.now in
    let mid = g.F.RawFile.state c.loop-done.file in
    let new = g.F.RawFile.state c.write_at.new.self in
    let few = c.loop-done.invariant.within in
    record {
      within = omega (arith, c.in_ok-count.ensures.count, length-rest c.args.bytes.now c.loop-done.done);
      honest = c.write_at.ensures.honest ∙ c.loop-done.invariant.honest;
      only = λ honest within.
          let so_far = c.loop-done.invariant.only honest within in
          only_more c.args.first at c.loop-done.done c.args.bytes.now old mid new place few so_far
          (c.write_at.ensures.only (c.loop-done.invariant.honest ∙ honest) (rest_within c.args.first at c.loop-done.done _ _ c.args.bytes.now place few within so_far.size));
      written = λ honest within.
          let fits = rest_within c.args.first at c.loop-done.done _ _ c.args.bytes.now place few within (c.loop-done.invariant.only honest within).size in
          written_more c.args.first at c.loop-done.done c.in_ok-count.count c.args.bytes.now (bytes_of old) (bytes_of mid) (bytes_of new) place few c.in_ok-count.ensures.count within
          (c.loop-done.invariant.written honest within) (c.in_ok-count.ensures.written (c.loop-done.invariant.honest ∙ honest) fits);
      opened = λ honest within.
          let fits = rest_within c.args.first at c.loop-done.done _ _ c.args.bytes.now place few within (c.loop-done.invariant.only honest within).size in
          open_more c.args.first at _ c.in_ok-count.count c.loop-done.done mid new place
          (c.write_at.ensures.only (c.loop-done.invariant.honest ∙ honest) fits) (c.loop-done.invariant.opened honest within) (c.in_ok-count.ensures.opened (c.loop-done.invariant.honest ∙ honest) fits some);
    }
