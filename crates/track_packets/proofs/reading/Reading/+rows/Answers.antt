use Rattle.std.proofs.Common.{◌≡◌, ◌+◌, ◌-◌, suc, arith, ap, sym, ◌∙◌}
use Rattle.std.proofs.lemmas.List.{nil_from_length}
use Rattle.track_packets.specs.Fields.{times, read_row, read_rows}
use Rattle.track_packets.proofs.Rows.{times_step, times_ends, times_done, no_levels, no_rows, row_passed, row_fails, block_fails, row_read, is_deeper, is_here, along, failed}
use Rattle.track_packets.proofs.reading.Reading.+rows.Goals as goal

pub returns-then-levels-eq0 : goal.returns-then-levels-eq0
returns-then-levels-eq0 t c = no_levels c.args.levels c.args.depth c.args.rows.now c.args.self.now c.if-levels-eq0.true

pub returns-in_default : goal.returns-in_default
returns-in_default t c =
    let none = nil_from_length c.args.rows.now c.in_default.ensures.cases in
    ap (λ rows. read_rows c.args.levels c.args.depth rows c.args.self.now) none ∙ no_rows c.args.levels c.args.depth c.args.self.now (omega (arith, c.if-levels-eq0.false))

pub returns-then-row-depth : goal.returns-then-row-depth
returns-then-row-depth t c =
    along _ c.rows.result _ _
    (ap (λ rows. read_rows c.args.levels c.args.depth rows c.args.self.now) c.in-Some.ensures.cases.0
    ∙ row_passed c.args.levels c.args.depth c.in-Some.row.now c.in-Some.others.now c.args.self.now (omega (arith, c.if-levels-eq0.false)) (is_deeper _ _ c.if-row-depth.true))
    c.rows.ensures

pub returns-in-Err : goal.returns-in-Err
returns-in-Err t c =
    let k : c.args.levels ≡ suc (c.args.levels - 1) = omega (arith, c.if-levels-eq0.false) in
    failed c.in-Err.error (read_row c.in-Some.row.now c.args.self.now) (read_rows c.args.levels c.args.depth c.args.rows.now c.args.self.now)
    (λ f e. ap (λ rows. read_rows c.args.levels c.args.depth rows c.args.self.now) c.in-Some.ensures.cases.0
    ∙ row_fails c.args.levels (c.args.levels - 1) c.args.depth c.in-Some.row.now c.in-Some.others.now c.args.self.now f k (is_here _ _ c.if-row-depth.false) e)
    c.in-Err.ensures

pub returns-in-Err-rows : goal.returns-in-Err-rows
returns-in-Err-rows t c =
    let k : c.args.levels ≡ suc (c.args.levels - 1) = omega (arith, c.if-levels-eq0.false) in
    failed c.in-Err-rows.error (read_rows (c.args.levels - 1) (c.args.depth + 1) c.deeper-block.result.now c.loop.self) (read_rows c.args.levels c.args.depth c.args.rows.now c.args.self.now)
    (λ f e. ap (λ rows. read_rows c.args.levels c.args.depth rows c.args.self.now) c.in-Some.ensures.cases.0
    ∙ block_fails c.args.levels (c.args.levels - 1) c.args.depth c.in-Some.row.now c.in-Some.others.now c.args.self.now c.row.new.self c.in-Ok.value f k (is_here _ _ c.if-row-depth.false) c.in-Ok.ensures
    (ap (λ block. times c.in-Ok.value (λ s. read_rows (c.args.levels - 1) (c.args.depth + 1) block s) c.row.new.self) (sym c.deeper-block.ensures)
    ∙ times_ends (λ s. read_rows (c.args.levels - 1) (c.args.depth + 1) c.deeper-block.result.now s) c.in-Ok.value c.loop.counter c.loop.self f _ c.loop-test.true e c.loop.invariant))
    c.in-Err-rows.ensures

pub loop-preserved : goal.loop-preserved
loop-preserved t c =
    times_step (λ s. read_rows (c.args.levels - 1) (c.args.depth + 1) c.deeper-block.result.now s) c.in-Ok.value c.loop.counter c.loop.self c.rows-in-loop.new.self _ c.loop-test.true c.in-Ok-rows.ensures c.loop.invariant

pub returns : goal.returns
returns t c =
    let k : c.args.levels ≡ suc (c.args.levels - 1) = omega (arith, c.if-levels-eq0.false) in
    along _ c.rows-2.result _ _
    (ap (λ rows. read_rows c.args.levels c.args.depth rows c.args.self.now) c.in-Some.ensures.cases.0
    ∙ row_read c.args.levels (c.args.levels - 1) c.args.depth c.in-Some.row.now c.in-Some.others.now c.args.self.now c.row.new.self c.loop.self c.in-Ok.value k (is_here _ _ c.if-row-depth.false) c.in-Ok.ensures
    (ap (λ block. times c.in-Ok.value (λ s. read_rows (c.args.levels - 1) (c.args.depth + 1) block s) c.row.new.self) (sym c.deeper-block.ensures)
    ∙ times_done (λ s. read_rows (c.args.levels - 1) (c.args.depth + 1) c.deeper-block.result.now s) c.in-Ok.value c.loop.counter c.loop.self _ c.loop-test.false c.loop.invariant))
    c.rows-2.ensures
