use Rattle.std.proofs.Common.{◌≡◌, ℕ, ◌+◌, ◌-◌, ◌*◌, take, drop, sym, ◌∙◌, ap, arith}
use Rattle.disk.specs.Record.{bytes_at}
use Rattle.disk.specs.declared.record.Place.{Place}
use Rattle.disk.proofs.record.bytes_in.Goals as goal

pub returns-in-Start-clause-bytes : goal.returns-in-Start-clause-bytes
returns-in-Start-clause-bytes c =
    let at : c.args.sector * 512 ≡ 512 * c.args.sector = omega arith in
    let size : c.args.sector * 512 + 512 - c.args.sector * 512 ≡ 512 = omega arith in
    (λ i. take (size i) (drop (at i) c.args.start.now)) ∙ ap (λ (p : Place). bytes_at c.args.start.now c.args.written.now c.args.sector p) (sym c.in-Start.is)

pub returns-in-Record-clause-bytes : goal.returns-in-Record-clause-bytes
returns-in-Record-clause-bytes c =
    let size : c.in-Record.at + 512 - c.in-Record.at ≡ 512 = omega arith in
    ap (λ (n : ℕ). take n (drop c.in-Record.at c.args.written.now)) size ∙ ap (λ (p : Place). bytes_at c.args.start.now c.args.written.now c.args.sector p) (sym c.in-Record.is)
