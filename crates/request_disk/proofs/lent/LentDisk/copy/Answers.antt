use Rattle.std.proofs.Common.{◌≡◌, ⊎_elim, ℕ, ◌+◌, ◌-◌, ◌<◌, length, sym, ◌∙◌, ap, arith}
use Rattle.std.proofs.lemmas.Bool.{cases_lt}
use Rattle.disk.proofs.Copies.{copied_more}
use Rattle.request_disk.specs.Lent.{fails_at, lent_contents}
use Rattle.request_disk.proofs.Missing.{fails_where, reads_where}
use Rattle.request_disk.proofs.lent.LentDisk.copy.Goals as goal

pub returns-in-None-clause-first : goal.returns-in-None-clause-first
returns-in-None-clause-first c =
    let w = c.args.self.now in
    record {
      from = omega arith;
      below = omega arith;
      fails = fails_where (fails_at w.disk w.first w.count _) (sym c.in-None.ensures.fails);
      before = λ t from below.
          let back : c.args.first + (t - c.args.first) ≡ t = omega arith in
          ap (λ (n : ℕ). fails_at w.disk w.first w.count n) (sym back) ∙ c.loop-i.invariant.1 (t - c.args.first) (omega arith);
    }

pub loop-i-preserved : goal.loop-i-preserved
loop-i-preserved c =
    let w = c.args.self.now in
    let here = c.copy_from_slice.ensures.after ∙ c.in-Some.ensures.bytes in (
      copied_more c.loop-i.out c.copy_from_slice.new.self c.loop-i.i _ (λ j. lent_contents w.disk w.first w.count (c.args.first + j)) (omega arith)
          (omega (arith, ap length c.copy_from_slice.ensures.after, c.in-Some.ensures.size)) (omega arith) c.loop-i.invariant.0 here,
      λ j below. ⊎_elim
          (λ (lt : j < c.loop-i.i). c.loop-i.invariant.1 j lt)
          (λ ge.
          let same : j ≡ c.loop-i.i = omega arith in
          ap (λ (n : ℕ). fails_at w.disk w.first w.count (c.args.first + n)) same ∙ reads_where (fails_at w.disk w.first w.count _) (sym c.in-Some.ensures.fails))
          (cases_lt j c.loop-i.i),
    )
